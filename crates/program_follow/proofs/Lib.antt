pub mod Endings
pub mod Handed
pub mod NextFaults
pub mod Opened
pub mod Printing
pub mod RenewalLinesPut
pub mod Steps
