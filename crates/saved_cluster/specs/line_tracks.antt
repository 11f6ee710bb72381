pub use Rattle.line_tracks.specs.tracks.Acts
pub use Rattle.line_tracks.specs.tracks.Lain
pub use Rattle.line_tracks.specs.tracks.Leaves
pub use Rattle.line_tracks.specs.tracks.Lines
pub mod cluster_joins
