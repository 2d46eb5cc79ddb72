pub use Rattle.verdict_format.specs.Verdicts
pub use Rattle.verdict_format.specs.Proofs
pub mod Checks
pub mod Findings
