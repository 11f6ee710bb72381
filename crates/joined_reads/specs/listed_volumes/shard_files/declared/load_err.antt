pub use Rattle.listed_volumes.specs.shard_files.declared.load_err.LoadErr
