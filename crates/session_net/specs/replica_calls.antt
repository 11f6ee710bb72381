pub use Rattle.replica_calls.specs.Calls
pub use Rattle.replica_calls.specs.Slots
