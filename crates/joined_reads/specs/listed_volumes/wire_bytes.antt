pub use Rattle.listed_volumes.specs.wire_bytes.Entries
pub use Rattle.listed_volumes.specs.wire_bytes.Snapshots
pub use Rattle.listed_volumes.specs.wire_bytes.Volumes
