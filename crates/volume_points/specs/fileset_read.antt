pub use Rattle.fileset_check.specs.fileset_read.Volumes
pub use Rattle.fileset_check.specs.fileset_read.declared
