pub use Rattle.series_merge.proofs.JoinLemmas
pub use Rattle.series_merge.proofs.OrderLemmas
