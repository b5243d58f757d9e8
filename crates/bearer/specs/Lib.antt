pub mod Sent
pub mod InStep
