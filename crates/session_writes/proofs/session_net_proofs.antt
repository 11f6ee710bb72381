pub use Rattle.session_net.proofs.ReadyLemmas
pub use Rattle.session_net.proofs.RunLemmas
