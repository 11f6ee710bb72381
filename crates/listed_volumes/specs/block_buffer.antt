pub use Rattle.volume_points.specs.block_buffer.Blocks
pub use Rattle.volume_points.specs.block_buffer.Held
pub use Rattle.volume_points.specs.block_buffer.Joins
pub use Rattle.volume_points.specs.block_buffer.Taken
