pub use Rattle.audit_commits.specs.Commits
pub mod Handovers
pub mod HandoverLaws
pub mod OldKeys
