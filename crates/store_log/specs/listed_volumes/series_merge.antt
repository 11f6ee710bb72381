pub use Rattle.joined_reads.specs.listed_volumes.series_merge.Merges
