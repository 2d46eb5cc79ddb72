pub use Rattle.log_format.specs.EntryText
pub use Rattle.log_format.specs.Readings
pub mod Sets
pub mod Logs
pub mod Evidence
pub mod Keyed
pub mod Gathering
pub mod NamedVotes
