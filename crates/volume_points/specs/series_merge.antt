pub use Rattle.series_merge.specs.Merges
