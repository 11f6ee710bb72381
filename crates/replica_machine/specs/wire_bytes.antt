pub use Rattle.shard_store.specs.wire_bytes.Entries
