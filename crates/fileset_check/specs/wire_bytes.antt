pub use Rattle.fileset_read.specs.wire_bytes.Entries
pub use Rattle.fileset_read.specs.wire_bytes.Fields
pub use Rattle.fileset_read.specs.wire_bytes.Points
pub use Rattle.fileset_read.specs.wire_bytes.Snapshots
pub use Rattle.fileset_read.specs.wire_bytes.Volumes
