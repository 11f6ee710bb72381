pub use Rattle.shard_files.proofs.m3_outside_proofs.Moments
pub use Rattle.shard_files.proofs.m3_outside_proofs.Names
pub use Rattle.shard_files.proofs.m3_outside_proofs.Removal
pub use Rattle.shard_files.proofs.m3_outside_proofs.SyncLemmas
