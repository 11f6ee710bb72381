pub use Rattle.line_tracks.specs.session_net.Runs
