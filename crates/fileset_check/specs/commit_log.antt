pub use Rattle.fileset_read.specs.commit_log.Contents
pub use Rattle.fileset_read.specs.commit_log.Cutting
pub use Rattle.fileset_read.specs.commit_log.LogEnd
pub use Rattle.fileset_read.specs.commit_log.Segment
