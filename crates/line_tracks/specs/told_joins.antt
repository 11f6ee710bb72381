pub use Rattle.told_joins.specs.Lines
