pub use Rattle.base_text.specs.Printed
pub mod FaultLines
pub mod Words
pub mod Outputs
pub mod Faults
