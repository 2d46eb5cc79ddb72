pub mod Tables
pub mod Cores
pub mod Plans
pub mod Admission
pub mod Restarts
pub mod Marks
