pub use Rattle.volume_points.specs.commit_log.Contents
pub use Rattle.volume_points.specs.commit_log.LogEnd
pub use Rattle.volume_points.specs.commit_log.Segment
