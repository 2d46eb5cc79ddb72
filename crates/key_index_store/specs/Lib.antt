pub mod Boundary
pub mod Indices
pub mod Refusals
pub mod State
pub use Rattle.stable_log.specs.Crash
pub use Rattle.stable_log.specs.Disk
pub use Rattle.stable_log.specs.Image
