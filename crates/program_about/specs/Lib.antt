pub mod About
pub mod Explaining
pub mod Sheets
pub mod Versions
pub mod LineageSheets
