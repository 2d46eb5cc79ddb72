pub mod Accepted
pub mod Lives
