pub use Rattle.held_points.specs.series_slots.Ranges
pub use Rattle.held_points.specs.series_slots.SeriesKeys
