pub mod Commanded
pub mod Endings
pub mod Filings
pub mod KeyLines
pub mod Keepings
pub mod Noted
pub mod Openings
pub mod RenewedSlots
