pub use Rattle.snapshot_steps.proofs.volume_steps_proofs.KnownLemmas
pub use Rattle.snapshot_steps.proofs.volume_steps_proofs.LawLemmas
pub use Rattle.snapshot_steps.proofs.volume_steps_proofs.ListLemmas
pub use Rattle.snapshot_steps.proofs.volume_steps_proofs.RemovalLemmas
