mod Ballots
pub mod Zips
mod Picking
mod Copies
mod Series
