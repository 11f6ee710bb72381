pub mod StretchLemmas
pub mod DiskLemmas
pub mod RangeLemmas
