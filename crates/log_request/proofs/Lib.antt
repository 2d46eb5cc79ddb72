pub mod AskedLaws
pub mod ChainRequestBytes
pub mod FirstBytesLaws
pub mod GatheringLaws
pub mod NamingLaws
pub mod PieceLaws
pub mod StepRequestBytes
