pub mod Asking
pub mod Giving
pub mod Holding
pub mod OneLineReading
pub mod OneReading
pub mod Receipts
pub mod Taking
