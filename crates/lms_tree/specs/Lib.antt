pub mod Tree
pub mod Keys
pub mod Refusals
