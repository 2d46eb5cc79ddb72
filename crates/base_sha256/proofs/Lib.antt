pub mod Counting
pub mod VectorLemmas
pub mod LaneLemmas
pub mod OneBlock
pub mod BlockLemmas
pub mod ValueLemmas
pub mod ChainLemmas
pub mod Rotations
