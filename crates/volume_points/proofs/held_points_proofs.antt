pub use Rattle.held_points.proofs.ListLemmas
