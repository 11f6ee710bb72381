pub use Rattle.store_log.specs.listed_volumes.commit_log.Contents
pub use Rattle.store_log.specs.listed_volumes.commit_log.LogEnd
