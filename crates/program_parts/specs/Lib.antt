pub use Rattle.base_text.specs.Printed
pub mod FaultLines
pub mod Faults
pub mod Writes
pub mod Words
