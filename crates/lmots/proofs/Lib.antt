pub mod ChainLemmas
pub mod BlockLemmas
pub mod JoinedLemmas
pub mod DigestBytes
pub mod SignedVerifies
pub mod WalkLemmas
pub mod FourKeyLemmas
