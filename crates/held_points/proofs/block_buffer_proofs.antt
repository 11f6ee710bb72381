pub use Rattle.block_buffer.proofs.BlockLemmas
pub use Rattle.block_buffer.proofs.ClosedLemmas
pub use Rattle.block_buffer.proofs.ContentLemmas
pub use Rattle.block_buffer.proofs.LawLemmas
