pub use Rattle.listed_volumes.proofs.series_merge_proofs.JoinLemmas
pub use Rattle.listed_volumes.proofs.series_merge_proofs.OrderLemmas
