pub mod Ids
pub mod Steps
pub mod Walks
