pub mod Register
pub mod Pattern
pub mod Meaning
pub mod Standing
pub mod Called
