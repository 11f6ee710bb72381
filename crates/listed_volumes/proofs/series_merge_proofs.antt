pub use Rattle.volume_points.proofs.series_merge_proofs.JoinLemmas
pub use Rattle.volume_points.proofs.series_merge_proofs.OrderLemmas
