pub mod WalkLemmas
pub mod RiseLemmas
