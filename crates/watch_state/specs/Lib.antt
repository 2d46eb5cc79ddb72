pub mod Digests
pub mod Names
pub mod Texts
pub mod Logs
pub mod Joins
pub mod Runs
