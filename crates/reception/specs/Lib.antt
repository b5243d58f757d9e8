pub mod Registers
pub mod Words
pub mod Checks
pub mod Hunts
pub mod Progresses
pub mod Steps
pub mod Hunted
