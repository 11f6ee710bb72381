pub use Rattle.volume_steps.specs.Known
pub use Rattle.volume_steps.specs.KnownLists
