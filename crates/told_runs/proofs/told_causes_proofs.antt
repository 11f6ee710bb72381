pub use Rattle.told_causes.proofs.FaultLemmas
pub use Rattle.told_causes.proofs.WaitLemmas
