pub use Rattle.listed_volumes.specs.fileset_read.Volumes
pub mod declared
