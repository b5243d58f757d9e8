pub mod Cases
pub mod Plans
pub mod Words
