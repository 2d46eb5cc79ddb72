pub mod Alone
pub mod Below
pub mod Firsts
pub mod Inclusion
pub mod Lineages
pub mod Texts
