pub mod BootLemmas
pub mod JoinedLemmas
pub mod MarkLemmas
pub mod OpenedLemmas
pub mod PartLemmas
pub mod StillLemmas
