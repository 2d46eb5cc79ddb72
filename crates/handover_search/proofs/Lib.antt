pub mod Best
pub mod Highest
pub mod JudgedChains
pub mod Lifted
pub mod Pieces
