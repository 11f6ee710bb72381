pub use Rattle.snapshot_steps.proofs.LogCounts
pub mod volume_steps_proofs
