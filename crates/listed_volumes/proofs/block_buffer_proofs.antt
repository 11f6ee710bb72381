pub use Rattle.volume_points.proofs.block_buffer_proofs.BlockLemmas
pub use Rattle.volume_points.proofs.block_buffer_proofs.ClosedLemmas
pub use Rattle.volume_points.proofs.block_buffer_proofs.ContentLemmas
pub use Rattle.volume_points.proofs.block_buffer_proofs.LawLemmas
