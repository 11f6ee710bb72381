pub use Rattle.fileset_check.specs.wire_bytes.Entries
pub use Rattle.fileset_check.specs.wire_bytes.Snapshots
pub use Rattle.fileset_check.specs.wire_bytes.Volumes
