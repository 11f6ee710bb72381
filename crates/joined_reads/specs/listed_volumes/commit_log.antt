pub use Rattle.listed_volumes.specs.commit_log.Contents
pub use Rattle.listed_volumes.specs.commit_log.LogEnd
pub use Rattle.listed_volumes.specs.commit_log.Segment
