pub mod StoodLemmas
pub mod TenureLemmas
pub mod ReasonLemmas
pub mod SlotLemmas
pub mod AskLemmas
pub mod FenceLemmas
pub mod StaleLemmas
pub mod OwnLemmas
