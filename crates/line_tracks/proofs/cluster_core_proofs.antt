pub use Rattle.cluster_core.proofs.ListLemmas
