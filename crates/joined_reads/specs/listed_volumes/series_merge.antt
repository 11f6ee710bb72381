pub use Rattle.listed_volumes.specs.series_merge.Merges
