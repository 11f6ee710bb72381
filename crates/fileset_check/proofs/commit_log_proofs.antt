pub use Rattle.fileset_read.proofs.commit_log_proofs.Begin
pub use Rattle.fileset_read.proofs.commit_log_proofs.Leaves
pub use Rattle.fileset_read.proofs.commit_log_proofs.Numbers
pub use Rattle.fileset_read.proofs.commit_log_proofs.ReadLemmas
