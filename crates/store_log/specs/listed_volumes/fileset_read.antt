pub use Rattle.joined_reads.specs.listed_volumes.fileset_read.Volumes
pub mod declared
