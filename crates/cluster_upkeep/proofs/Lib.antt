pub mod RowLemmas
pub mod CallLemmas
pub mod SweepLemmas
pub use Rattle.node_calls.proofs.ListLemmas
pub use Rattle.node_calls.proofs.RunLemmas
