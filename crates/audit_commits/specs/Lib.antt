pub use Rattle.blocks.specs.Weights
pub mod Commits
pub mod Culprits
pub mod AccountabilityLaws
pub mod Casts
pub mod Chosen
pub mod Successors
pub mod Pairs
