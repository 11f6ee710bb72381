pub use Rattle.replica_calls.specs.wire_bytes.Entries
