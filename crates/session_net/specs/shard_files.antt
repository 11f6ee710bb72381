pub use Rattle.replica_calls.specs.shard_files.FilesHold
pub use Rattle.replica_calls.specs.shard_files.Once
