pub use Rattle.transcripts.specs.Placements
pub use Rattle.transcripts.specs.Reasons
pub use Rattle.transcripts.specs.Sweeps
