pub mod JoinLemmas
pub mod PartLemmas
pub mod PairLemmas
pub mod RunLemmas
pub mod OrderLemmas
