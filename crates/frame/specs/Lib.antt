pub mod Checks
pub mod Filling
pub mod Frames
pub mod Modes
pub mod Paddings
pub mod Places
