pub use Rattle.served_cluster.proofs.EndLemmas
pub use Rattle.served_cluster.proofs.OwnLemmas
