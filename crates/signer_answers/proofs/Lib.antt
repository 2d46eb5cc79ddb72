pub mod Asked
mod BlockTold
mod Frames
mod Looked
mod OneFirst
pub mod Unvoted
