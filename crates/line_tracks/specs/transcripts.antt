pub use Rattle.transcripts.specs.Caused
pub use Rattle.transcripts.specs.Fates
pub use Rattle.transcripts.specs.Placements
pub use Rattle.transcripts.specs.Record
pub use Rattle.transcripts.specs.Refusals
pub use Rattle.transcripts.specs.Waiting
