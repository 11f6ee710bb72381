pub use Rattle.volume_points.proofs.commit_log_proofs.Begin
pub use Rattle.volume_points.proofs.commit_log_proofs.Leaves
pub use Rattle.volume_points.proofs.commit_log_proofs.ReadLemmas
