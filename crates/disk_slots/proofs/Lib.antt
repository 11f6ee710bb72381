pub mod SlotLemmas
pub mod LendLemmas
