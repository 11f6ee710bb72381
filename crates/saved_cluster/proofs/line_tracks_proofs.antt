pub use Rattle.line_tracks.proofs.tracks.LainLemmas
pub use Rattle.line_tracks.proofs.tracks.LeaveLemmas
pub use Rattle.line_tracks.proofs.tracks.MadeLemmas
