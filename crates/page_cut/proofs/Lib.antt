pub mod PastLemmas
pub mod PageLemmas
