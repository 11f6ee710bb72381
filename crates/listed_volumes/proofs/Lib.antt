pub mod CachedLemmas
mod KeptLemmas
mod FetchLemmas
pub mod FirstLemmas
pub mod NeededLemmas
pub mod TimeLemmas
pub mod RangeLemmas
pub mod block_buffer_proofs
pub mod commit_log_proofs
pub mod held_points_proofs
pub mod series_merge_proofs
pub mod shard_files_proofs
pub use Rattle.volume_points.proofs.AnswerLemmas
pub use Rattle.volume_points.proofs.KnownLemmas
pub use Rattle.volume_points.proofs.ReadLemmas
pub use Rattle.volume_points.proofs.RetainLemmas
