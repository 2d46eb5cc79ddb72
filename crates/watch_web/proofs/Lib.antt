pub mod Joining
pub mod Pieces
pub mod Chains
