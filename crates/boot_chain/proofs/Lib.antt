pub mod PartLemmas
pub mod ChainLemmas
