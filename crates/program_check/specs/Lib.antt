pub use Rattle.base_text.specs.Printed
pub mod Lines
pub mod Texts
pub mod Answers
pub mod FaultLines
pub mod Words
pub mod Judgements
pub mod Faults
