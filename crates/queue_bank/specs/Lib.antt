pub mod Laid
pub mod Queues
pub mod Account
pub mod Meaning
pub mod Standing
pub mod Readings
pub mod Order
pub mod Called
