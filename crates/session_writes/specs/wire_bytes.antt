pub use Rattle.session_net.specs.wire_bytes.Entries
