pub use Rattle.store_log.specs.listed_volumes.shard_files.Damage
pub use Rattle.store_log.specs.listed_volumes.shard_files.FilesHold
pub use Rattle.store_log.specs.listed_volumes.shard_files.Gains
pub use Rattle.store_log.specs.listed_volumes.shard_files.Keeps
pub use Rattle.store_log.specs.listed_volumes.shard_files.Once
pub use Rattle.store_log.specs.listed_volumes.shard_files.Parts
pub use Rattle.store_log.specs.listed_volumes.shard_files.Steps
pub use Rattle.store_log.specs.listed_volumes.shard_files.declared
