pub mod Answered
pub mod Collected
pub mod Joinings
pub mod Judgings
pub mod Outcomes
pub mod Remembered
pub mod Replaying
