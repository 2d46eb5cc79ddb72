pub use Rattle.base_streams.specs.Streams
pub mod Escapes
pub mod Printed
