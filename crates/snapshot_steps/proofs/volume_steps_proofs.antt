pub use Rattle.volume_steps.proofs.KnownLemmas
pub use Rattle.volume_steps.proofs.LawLemmas
pub use Rattle.volume_steps.proofs.ListLemmas
pub use Rattle.volume_steps.proofs.LogLemmas
pub use Rattle.volume_steps.proofs.RemovalLemmas
