pub use Rattle.commit_log.proofs.m3_outside_proofs.Moments
pub use Rattle.commit_log.proofs.m3_outside_proofs.Names
pub use Rattle.commit_log.proofs.m3_outside_proofs.Patches
pub use Rattle.commit_log.proofs.m3_outside_proofs.Removal
pub use Rattle.commit_log.proofs.m3_outside_proofs.SyncLemmas
