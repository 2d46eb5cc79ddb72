pub mod JudgedSteps
pub mod Least
pub mod LineageLines
pub mod StepLaws
pub mod StepRefusals
pub mod Steps
pub mod Successors
