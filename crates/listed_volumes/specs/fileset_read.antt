pub use Rattle.volume_points.specs.fileset_read.Volumes
pub use Rattle.volume_points.specs.fileset_read.declared
