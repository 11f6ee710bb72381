pub use Rattle.line_tracks.proofs.first_cluster_proofs.SlotCases
pub use Rattle.line_tracks.proofs.first_cluster_proofs.SlotLists
