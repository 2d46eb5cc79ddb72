pub mod Verdicts
pub mod Searches
pub mod Found
pub mod Reports
pub mod ReportText
pub mod ReportErrors
