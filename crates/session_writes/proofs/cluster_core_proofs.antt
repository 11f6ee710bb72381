pub use Rattle.session_net.proofs.cluster_core_proofs.ExtendLemmas
pub use Rattle.session_net.proofs.cluster_core_proofs.ListLemmas
