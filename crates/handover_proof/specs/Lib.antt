pub mod LightMaking
pub mod Proofs
