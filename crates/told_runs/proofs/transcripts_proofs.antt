pub use Rattle.transcripts.proofs.PlacementLemmas
pub use Rattle.transcripts.proofs.PositionLemmas
