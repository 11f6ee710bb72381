pub use Rattle.listed_volumes.specs.block_buffer.Blocks
pub use Rattle.listed_volumes.specs.block_buffer.Held
pub use Rattle.listed_volumes.specs.block_buffer.Joins
pub use Rattle.listed_volumes.specs.block_buffer.Taken
