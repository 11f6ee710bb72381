pub mod Owned
pub mod Plans
pub mod Joins
pub mod Acts
pub use Rattle.line_tracks.specs.tracks.Ends
pub use Rattle.line_tracks.specs.tracks.Tracks
