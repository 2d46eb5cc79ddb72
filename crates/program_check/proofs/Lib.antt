pub mod Splitting
pub mod Spelling
pub mod Causes
pub mod Judging
