pub mod Backups
pub mod ForgottenVotes
pub mod Shown
