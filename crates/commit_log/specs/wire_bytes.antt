pub use Rattle.log_chunks.specs.wire_bytes.Entries
pub use Rattle.log_chunks.specs.wire_bytes.Fields
pub use Rattle.log_chunks.specs.wire_bytes.Numbers
pub use Rattle.log_chunks.specs.wire_bytes.Points
pub use Rattle.log_chunks.specs.wire_bytes.Snapshots
pub use Rattle.log_chunks.specs.wire_bytes.Volumes
pub use Rattle.log_chunks.specs.wire_bytes.declared
