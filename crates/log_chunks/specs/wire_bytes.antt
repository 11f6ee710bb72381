pub use Rattle.wire_bytes.specs.Entries
pub use Rattle.wire_bytes.specs.Fields
pub use Rattle.wire_bytes.specs.Numbers
pub use Rattle.wire_bytes.specs.Points
pub use Rattle.wire_bytes.specs.Snapshots
pub use Rattle.wire_bytes.specs.Volumes
pub use Rattle.wire_bytes.specs.declared
