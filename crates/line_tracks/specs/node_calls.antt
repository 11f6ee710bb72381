pub use Rattle.node_calls.specs.Halts
pub use Rattle.node_calls.specs.Nodes
