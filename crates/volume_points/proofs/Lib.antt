pub mod JoinedLemmas
pub mod AnswerLemmas
pub mod PickedLemmas
mod ChosenLemmas
pub mod RetainLemmas
pub mod VolumeLemmas
pub mod KnownLemmas
pub mod ReadLemmas
pub mod BlockLemmas
pub mod block_buffer_proofs
pub mod commit_log_proofs
pub mod fileset_check_proofs
pub mod held_points_proofs
pub mod series_merge_proofs
pub mod shard_files_proofs
