pub use Rattle.block_buffer.specs.Blocks
pub use Rattle.block_buffer.specs.Held
pub use Rattle.block_buffer.specs.Joins
pub use Rattle.block_buffer.specs.Taken
