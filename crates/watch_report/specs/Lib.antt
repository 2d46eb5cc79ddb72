pub mod LineTimes
pub mod Proved
pub mod Sources
pub mod Standings
pub mod Times
pub mod WatchLines
