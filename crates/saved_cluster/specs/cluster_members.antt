pub use Rattle.line_tracks.specs.cluster_members.Steps
pub use Rattle.line_tracks.specs.cluster_members.declared
