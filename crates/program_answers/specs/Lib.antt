pub mod Judging
pub mod Showing
pub mod Naming
pub mod Voting
