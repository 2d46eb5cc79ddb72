pub mod Gates
pub mod Parts
