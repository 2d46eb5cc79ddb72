pub mod Ends
pub mod FaultLines
pub mod Nexts
