pub mod LogTexts
pub mod Longer
pub mod EntryLines
pub mod Tests
pub mod WordLists
pub mod Showings
pub mod Causes
