pub use Rattle.line_tracks.specs.replica_calls.Calls
pub use Rattle.line_tracks.specs.replica_calls.Slots
