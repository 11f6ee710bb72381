pub use Rattle.joined_reads.specs.listed_volumes.wire_bytes.Entries
pub use Rattle.joined_reads.specs.listed_volumes.wire_bytes.Snapshots
pub use Rattle.joined_reads.specs.listed_volumes.wire_bytes.Volumes
