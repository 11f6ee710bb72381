pub use Rattle.cluster_members.specs.shard_files.FilesHold
