pub mod KeptLemmas
pub mod LogStepLemmas
pub mod WholeLemmas
pub mod EntryLengths
pub mod listed_volumes_proofs
pub mod snapshot_steps_proofs
