pub use Rattle.session_net.specs.shard_files.FilesHold
pub use Rattle.session_net.specs.shard_files.Once
