pub use Rattle.joined_reads.specs.listed_volumes.shard_files.declared.entries.LogEntry
