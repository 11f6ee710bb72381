pub use Rattle.commit_log.specs.Contents
pub use Rattle.commit_log.specs.Cutting
pub use Rattle.commit_log.specs.LogEnd
pub use Rattle.commit_log.specs.Segment
