pub mod LineReceipts
pub mod Answering
pub mod Printing
pub mod Gathering
