pub use Rattle.cluster_core.proofs.ExtendLemmas
pub use Rattle.cluster_core.proofs.ListLemmas
pub use Rattle.cluster_core.proofs.OwnLemmas
pub use Rattle.cluster_core.proofs.ReplicaLemmas
pub use Rattle.cluster_core.proofs.TraceLemmas
