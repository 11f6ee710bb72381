pub mod ChangeLemmas
pub mod FewLemmas
mod GainLemmas
mod HasLemmas
mod HeldLemmas
mod ListedLemmas
pub mod OrderLemmas
pub mod PlacedLemmas
pub mod PlaceLemmas
