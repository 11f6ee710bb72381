pub use Rattle.replica_machine.proofs.cluster_core_proofs.ExtendLemmas
pub use Rattle.replica_machine.proofs.cluster_core_proofs.ListLemmas
pub use Rattle.replica_machine.proofs.cluster_core_proofs.OwnLemmas
pub use Rattle.replica_machine.proofs.cluster_core_proofs.TraceLemmas
