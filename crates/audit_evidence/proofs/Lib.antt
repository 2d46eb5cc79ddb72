pub mod Lists
pub mod Taking
pub mod VoteSets
pub mod HeaderOrder
pub mod Gatherings
pub mod Absorbing
pub mod GoodVotes
pub mod NamedVotes
