pub use Rattle.shard_store.specs.commit_log.Contents
