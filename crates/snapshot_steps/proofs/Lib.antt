pub mod NextNumbers
pub mod FilesLemmas
pub mod StepLemmas
pub mod LogCounts
pub mod volume_steps_proofs
