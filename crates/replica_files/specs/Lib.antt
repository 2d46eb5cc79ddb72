pub use Rattle.base_streams.specs.Streams
pub mod Drawing
pub mod Faults
pub mod KeyFiles
pub mod KeySets
pub mod MemoryFiles
pub mod PutBackFiles
