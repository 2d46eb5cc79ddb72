pub mod Accounts
pub mod Adding
mod Appending
pub mod Coming
pub mod Plain
pub mod Readings
pub mod Votes
