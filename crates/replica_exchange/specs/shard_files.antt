pub use Rattle.replica_machine.specs.shard_files.FilesHold
pub use Rattle.replica_machine.specs.shard_files.Once
