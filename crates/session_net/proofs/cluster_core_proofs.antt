pub use Rattle.replica_calls.proofs.cluster_core_proofs.ExtendLemmas
pub use Rattle.replica_calls.proofs.cluster_core_proofs.ListLemmas
