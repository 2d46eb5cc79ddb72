pub mod HistoryLaws
pub mod Lineages
pub mod OwnKeysLaws
pub mod Recovered
pub mod Refused
pub mod Stored
pub mod Taken
pub mod WordLaws
