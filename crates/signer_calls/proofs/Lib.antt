pub mod Ids
pub mod Parameters
pub mod Pairs
pub mod OverBodies
pub mod BlockLists
pub mod VoteReading
pub mod OneReading
