pub mod Splits
pub mod Sent
