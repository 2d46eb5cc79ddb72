pub mod Addresses
pub mod Sources
pub mod Numbers
pub mod Endings
