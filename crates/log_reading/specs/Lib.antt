pub use Rattle.log_transfer.specs.Connections
pub mod Answers
pub mod Following
