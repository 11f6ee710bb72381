pub mod Steps
pub mod NumberLemmas
pub mod TaskLemmas
pub mod TakenLemmas
