pub use Rattle.m3_outside.proofs.Moments
pub use Rattle.m3_outside.proofs.Names
pub use Rattle.m3_outside.proofs.Patches
pub use Rattle.m3_outside.proofs.Removal
pub use Rattle.m3_outside.proofs.SyncLemmas
