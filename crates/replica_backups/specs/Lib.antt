pub use Rattle.audit_commits.specs.Culprits
pub use Rattle.certificates.specs.Certificates
pub mod Forgotten
pub mod GuardLaws
pub mod OwnVotes
