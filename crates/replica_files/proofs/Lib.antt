mod Drawn
pub mod KeyMaking
pub mod Looking
mod Stopping
