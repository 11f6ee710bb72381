pub use Rattle.fileset_check.proofs.commit_log_proofs.Begin
pub use Rattle.fileset_check.proofs.commit_log_proofs.Leaves
pub use Rattle.fileset_check.proofs.commit_log_proofs.ReadLemmas
