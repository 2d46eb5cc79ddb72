pub mod NodeLemmas
pub mod PathLemmas
pub mod KeyLemmas
pub mod SignedVerifies
