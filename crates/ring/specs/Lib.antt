pub mod Queue
pub mod Held
