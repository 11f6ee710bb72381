pub use Rattle.shard_files.specs.wire_bytes.Entries
pub use Rattle.shard_files.specs.wire_bytes.Fields
pub use Rattle.shard_files.specs.wire_bytes.Numbers
pub use Rattle.shard_files.specs.wire_bytes.Points
pub use Rattle.shard_files.specs.wire_bytes.Snapshots
pub use Rattle.shard_files.specs.wire_bytes.Volumes
pub use Rattle.shard_files.specs.wire_bytes.declared
