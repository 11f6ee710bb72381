pub use Rattle.shard_files.proofs.commit_log_proofs.Begin
pub use Rattle.shard_files.proofs.commit_log_proofs.Leaves
pub use Rattle.shard_files.proofs.commit_log_proofs.Numbers
pub use Rattle.shard_files.proofs.commit_log_proofs.ReadLemmas
