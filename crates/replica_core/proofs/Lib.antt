pub mod Places
pub mod Trees
pub mod Planned
pub mod Known
pub mod Linked
pub mod Marked
