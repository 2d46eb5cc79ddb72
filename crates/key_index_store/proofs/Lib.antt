pub mod Bounds
pub mod Recovered
pub mod Reservations
