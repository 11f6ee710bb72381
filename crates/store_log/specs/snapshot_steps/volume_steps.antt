pub use Rattle.snapshot_steps.specs.volume_steps.Known
pub use Rattle.snapshot_steps.specs.volume_steps.KnownLists
