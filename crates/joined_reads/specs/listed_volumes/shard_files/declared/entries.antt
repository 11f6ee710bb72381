pub use Rattle.listed_volumes.specs.shard_files.declared.entries.LogEntry
