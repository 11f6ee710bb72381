pub mod ListLemmas
pub mod KnownLemmas
pub mod DiskLemmas
pub mod RemovalLemmas
pub mod LawLemmas
pub mod LogLemmas
