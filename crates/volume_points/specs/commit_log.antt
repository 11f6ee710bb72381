pub use Rattle.fileset_check.specs.commit_log.Contents
pub use Rattle.fileset_check.specs.commit_log.LogEnd
pub use Rattle.fileset_check.specs.commit_log.Segment
