pub use Rattle.session_writes.specs.replica_calls.Calls
pub use Rattle.session_writes.specs.replica_calls.Slots
