pub use Rattle.replica_machine.specs.wire_bytes.Entries
