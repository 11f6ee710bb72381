pub use Rattle.session_net.proofs.replica_calls_proofs.SlotLemmas
