mod Itself
mod Pieces
mod Sayings
pub mod WordLists
