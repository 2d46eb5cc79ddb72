pub mod Awaiting
pub mod Bounding
pub mod Gatherings
pub mod GivingWay
pub mod Rooms
pub mod Standings
