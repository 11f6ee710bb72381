pub mod LastLemmas
pub mod NumberLemmas
pub mod ElseLemmas
pub mod HoldsLemmas
pub mod DiskLemmas
pub mod CallLemmas
pub mod ReadLemmas
