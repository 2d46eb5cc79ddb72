pub mod NextKeysLaws
pub mod EndorsementLaws
pub mod Places
