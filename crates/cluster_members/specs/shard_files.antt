pub use Rattle.session_writes.specs.shard_files.FilesHold
pub use Rattle.session_writes.specs.shard_files.Once
