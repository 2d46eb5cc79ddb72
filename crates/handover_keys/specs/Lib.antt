pub mod BoundIds
pub mod NextKeys
pub mod NextKeysReading
pub mod Endorsements
pub mod EndorsementChecks
