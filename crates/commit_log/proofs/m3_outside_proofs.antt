pub use Rattle.log_chunks.proofs.m3_outside_proofs.Moments
pub use Rattle.log_chunks.proofs.m3_outside_proofs.Names
pub use Rattle.log_chunks.proofs.m3_outside_proofs.Patches
pub use Rattle.log_chunks.proofs.m3_outside_proofs.Removal
pub use Rattle.log_chunks.proofs.m3_outside_proofs.SyncLemmas
