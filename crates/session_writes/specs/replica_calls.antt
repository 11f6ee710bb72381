pub use Rattle.session_net.specs.replica_calls.Calls
pub use Rattle.session_net.specs.replica_calls.Slots
