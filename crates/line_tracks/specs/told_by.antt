pub use Rattle.told_runs.specs.told_by.Hears
pub use Rattle.told_runs.specs.told_by.Steps
