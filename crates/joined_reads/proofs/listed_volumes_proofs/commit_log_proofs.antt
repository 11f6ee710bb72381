pub use Rattle.listed_volumes.proofs.commit_log_proofs.Begin
pub use Rattle.listed_volumes.proofs.commit_log_proofs.Leaves
pub use Rattle.listed_volumes.proofs.commit_log_proofs.ReadLemmas
