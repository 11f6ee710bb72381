pub use Rattle.replica_calls.proofs.SlotLemmas
