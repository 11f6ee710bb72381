pub use Rattle.joined_reads.specs.listed_volumes.shard_files.declared.load_err.LoadErr
