pub use Rattle.line_tracks.specs.cluster_joins.Boots
