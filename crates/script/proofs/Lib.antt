pub mod Busy
pub mod Nexts
pub mod Parsing
pub mod Parting
