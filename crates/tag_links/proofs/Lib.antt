pub mod KeyLemmas
pub mod LinkLemmas
pub mod PostingLemmas
