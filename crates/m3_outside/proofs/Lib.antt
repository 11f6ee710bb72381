pub mod Names
pub mod Patches
pub mod Moments
pub mod Removal
pub mod DiskLawLemmas
pub mod SyncLemmas
