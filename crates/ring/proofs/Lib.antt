pub mod Turning
pub mod Rings
