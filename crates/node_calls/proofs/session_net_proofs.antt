pub use Rattle.cluster_members.proofs.session_net_proofs.ReadyLemmas
pub use Rattle.cluster_members.proofs.session_net_proofs.RunLemmas
