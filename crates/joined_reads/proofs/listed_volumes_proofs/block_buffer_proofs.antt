pub use Rattle.listed_volumes.proofs.block_buffer_proofs.BlockLemmas
pub use Rattle.listed_volumes.proofs.block_buffer_proofs.ClosedLemmas
pub use Rattle.listed_volumes.proofs.block_buffer_proofs.ContentLemmas
pub use Rattle.listed_volumes.proofs.block_buffer_proofs.LawLemmas
