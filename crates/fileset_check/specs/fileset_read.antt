pub use Rattle.fileset_read.specs.Rows
pub use Rattle.fileset_read.specs.Volumes
pub use Rattle.fileset_read.specs.declared
