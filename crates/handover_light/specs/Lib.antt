pub use Rattle.handover_blocks.specs.Handovers
pub mod LightProofs
pub mod LightProofReading
pub mod Places
pub mod Proving
pub mod LightProofRefusals
pub mod Histories
pub mod LightProofLaws
