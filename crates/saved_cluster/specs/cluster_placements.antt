pub use Rattle.line_tracks.specs.cluster_placements.Lending
pub use Rattle.line_tracks.specs.cluster_placements.Steps
