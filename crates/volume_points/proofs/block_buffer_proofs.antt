pub use Rattle.held_points.proofs.block_buffer_proofs.BlockLemmas
pub use Rattle.held_points.proofs.block_buffer_proofs.ClosedLemmas
pub use Rattle.held_points.proofs.block_buffer_proofs.ContentLemmas
pub use Rattle.held_points.proofs.block_buffer_proofs.LawLemmas
