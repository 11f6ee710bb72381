pub use Rattle.line_tracks.specs.first_cluster.Bare
pub use Rattle.line_tracks.specs.first_cluster.Depots
pub use Rattle.line_tracks.specs.first_cluster.Lending
pub use Rattle.line_tracks.specs.first_cluster.Slots
