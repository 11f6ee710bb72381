pub use Rattle.volume_points.specs.wire_bytes.Entries
pub use Rattle.volume_points.specs.wire_bytes.Snapshots
pub use Rattle.volume_points.specs.wire_bytes.Volumes
