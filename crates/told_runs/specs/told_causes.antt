pub use Rattle.told_causes.specs.Faults
