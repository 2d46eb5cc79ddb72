pub mod Answers
pub mod Intakes
pub mod LineReading
pub mod OutcomeLines
pub mod RequestLines
pub mod Requests
pub mod SessionReceipts
