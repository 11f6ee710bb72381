pub use Rattle.volume_points.proofs.held_points_proofs.ListLemmas
