pub use Rattle.node_calls.specs.replica_calls.Calls
pub use Rattle.node_calls.specs.replica_calls.Slots
