pub use Rattle.volume_points.specs.series_slots.Ranges
pub use Rattle.volume_points.specs.series_slots.SeriesKeys
