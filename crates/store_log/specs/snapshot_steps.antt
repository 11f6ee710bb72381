pub use Rattle.snapshot_steps.specs.Counts
pub use Rattle.snapshot_steps.specs.Saved
pub mod volume_steps
