pub use Rattle.shard_store.specs.shard_files.FilesHold
pub use Rattle.shard_store.specs.shard_files.Gains
pub use Rattle.shard_store.specs.shard_files.Keeps
pub use Rattle.shard_store.specs.shard_files.Once
pub use Rattle.shard_store.specs.shard_files.Parts
