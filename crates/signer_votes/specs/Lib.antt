pub mod Claims
pub mod Memories
