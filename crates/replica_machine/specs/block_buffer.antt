pub use Rattle.shard_store.specs.block_buffer.Held
