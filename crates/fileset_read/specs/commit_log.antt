pub use Rattle.shard_files.specs.commit_log.Contents
pub use Rattle.shard_files.specs.commit_log.Cutting
pub use Rattle.shard_files.specs.commit_log.LogEnd
pub use Rattle.shard_files.specs.commit_log.Segment
