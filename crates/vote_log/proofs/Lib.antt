pub mod LogLaws
pub mod StepFaults
pub mod LogKeeps
pub mod LogAppends
pub mod Sending
pub mod Renewed
pub mod OldLogs
