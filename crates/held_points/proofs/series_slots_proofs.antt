pub use Rattle.series_slots.proofs.AnswerLemmas
pub use Rattle.series_slots.proofs.MoveLemmas
