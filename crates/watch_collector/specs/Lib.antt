pub use Rattle.audit_evidence.specs.Evidence
pub use Rattle.audit_evidence.specs.Logs
pub mod Parts
pub mod Growing
pub mod Collectors
pub mod Growth
pub mod Untouched
pub mod Audits
