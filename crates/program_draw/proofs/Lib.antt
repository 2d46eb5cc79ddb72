pub mod Zips
pub mod SourceWords
pub mod Sources
pub mod Causes
