pub mod Rows
pub mod Findings
pub mod Sweeps
pub mod Status
pub mod Upkeep
pub use Rattle.node_calls.specs.Nodes
