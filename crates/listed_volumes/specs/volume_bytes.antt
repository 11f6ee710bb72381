pub use Rattle.volume_points.specs.volume_bytes.Heads
pub use Rattle.volume_points.specs.volume_bytes.declared
