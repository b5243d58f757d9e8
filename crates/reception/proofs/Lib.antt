pub mod Counted
pub mod Hunted
