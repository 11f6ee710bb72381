pub mod PastLemmas
pub mod DiskLemmas
