pub use Rattle.held_points.specs.block_buffer.Blocks
pub use Rattle.held_points.specs.block_buffer.Held
pub use Rattle.held_points.specs.block_buffer.Joins
pub use Rattle.held_points.specs.block_buffer.Taken
