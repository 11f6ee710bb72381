pub mod PutLemmas
pub mod FilesLemmas
pub mod GateLemmas
pub mod FindLemmas
pub mod WriteLemmas
pub mod VolumeLemmas
