pub use Rattle.commit_log.specs.wire_bytes.Entries
pub use Rattle.commit_log.specs.wire_bytes.Fields
pub use Rattle.commit_log.specs.wire_bytes.Numbers
pub use Rattle.commit_log.specs.wire_bytes.Points
pub use Rattle.commit_log.specs.wire_bytes.Snapshots
pub use Rattle.commit_log.specs.wire_bytes.Volumes
pub use Rattle.commit_log.specs.wire_bytes.declared
