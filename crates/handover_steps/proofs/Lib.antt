pub mod Decided
pub mod Going
pub mod RefusedFiles
pub mod TakenLaws
