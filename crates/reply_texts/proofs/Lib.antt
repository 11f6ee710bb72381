pub mod ListLemmas
pub mod ReadLemmas
