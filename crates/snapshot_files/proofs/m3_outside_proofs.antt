pub use Rattle.fileset_check.proofs.m3_outside_proofs.Moments
pub use Rattle.fileset_check.proofs.m3_outside_proofs.Names
pub use Rattle.fileset_check.proofs.m3_outside_proofs.Removal
pub use Rattle.fileset_check.proofs.m3_outside_proofs.SyncLemmas
