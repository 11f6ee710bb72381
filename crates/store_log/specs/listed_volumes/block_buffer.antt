pub use Rattle.joined_reads.specs.listed_volumes.block_buffer.Blocks
pub use Rattle.joined_reads.specs.listed_volumes.block_buffer.Held
pub use Rattle.joined_reads.specs.listed_volumes.block_buffer.Joins
pub use Rattle.joined_reads.specs.listed_volumes.block_buffer.Taken
