pub use Rattle.commit_log.proofs.Begin
pub use Rattle.commit_log.proofs.Leaves
pub use Rattle.commit_log.proofs.Numbers
pub use Rattle.commit_log.proofs.ReadLemmas
