pub use Rattle.joined_reads.specs.listed_volumes.commit_log.Contents
pub use Rattle.joined_reads.specs.listed_volumes.commit_log.LogEnd
pub use Rattle.joined_reads.specs.listed_volumes.commit_log.Segment
