pub use Rattle.series_slots.specs.Ranges
pub use Rattle.series_slots.specs.SeriesKeys
