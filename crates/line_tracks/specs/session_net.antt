pub use Rattle.node_calls.specs.session_net.Reads
pub use Rattle.node_calls.specs.session_net.Ready
pub use Rattle.node_calls.specs.session_net.Runs
pub use Rattle.node_calls.specs.session_net.declared
