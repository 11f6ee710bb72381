pub use Rattle.listed_volumes.proofs.held_points_proofs.ListLemmas
