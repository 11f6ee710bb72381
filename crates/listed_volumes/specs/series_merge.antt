pub use Rattle.volume_points.specs.series_merge.Merges
