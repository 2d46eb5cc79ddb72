pub mod Handouts
pub mod Replies
