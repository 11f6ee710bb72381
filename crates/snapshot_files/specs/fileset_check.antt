pub use Rattle.fileset_check.specs.Told
pub use Rattle.fileset_check.specs.Whole
pub use Rattle.fileset_check.specs.declared
