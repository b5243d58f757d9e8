pub mod Accounts
pub mod Channels
pub mod Standings
pub mod Order
pub mod Made
