pub mod Digests
mod Came
mod Placing
