pub use Rattle.store_log.specs.listed_volumes.block_buffer.Held
pub use Rattle.store_log.specs.listed_volumes.block_buffer.Joins
pub use Rattle.store_log.specs.listed_volumes.block_buffer.Taken
