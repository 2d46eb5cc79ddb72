pub mod Chains
pub mod FourKeys
pub mod Refusals
pub mod Signatures
pub mod Walks
