pub use Rattle.audit_evidence.specs.Logs
pub mod Data
pub mod Kept
pub mod KeptLaws
pub mod Reasons
pub mod RunErrors
pub mod Runs
pub mod Written
