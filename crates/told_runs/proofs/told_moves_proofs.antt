pub use Rattle.told_moves.proofs.OwnLemmas
pub use Rattle.told_moves.proofs.SlotLemmas
pub use Rattle.told_moves.proofs.TenureLemmas
