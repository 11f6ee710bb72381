pub use Rattle.replica_machine.proofs.OpeningLemmas
pub use Rattle.replica_machine.proofs.OtherLemmas
