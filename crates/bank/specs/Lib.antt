pub mod Code
pub mod Meaning
pub mod Channels
pub mod Runs
