pub use Rattle.replica_exchange.specs.wire_bytes.Entries
