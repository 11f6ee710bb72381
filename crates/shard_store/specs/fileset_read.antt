pub use Rattle.store_log.specs.listed_volumes.fileset_read.Volumes
pub use Rattle.store_log.specs.listed_volumes.fileset_read.declared
