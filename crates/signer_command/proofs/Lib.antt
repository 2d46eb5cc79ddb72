pub mod Printing
pub mod Running
mod Handed
mod FirstWrong
mod Values
