pub use Rattle.session_writes.proofs.session_net_proofs.ReadyLemmas
pub use Rattle.session_writes.proofs.session_net_proofs.RunLemmas
