pub use Rattle.replica_exchange.specs.shard_files.FilesHold
pub use Rattle.replica_exchange.specs.shard_files.Once
