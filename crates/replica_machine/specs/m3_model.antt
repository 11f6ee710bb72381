pub use Rattle.m3_model.specs.Contents
pub use Rattle.m3_model.specs.Reads
pub use Rattle.m3_model.specs.Rules
pub use Rattle.m3_model.specs.declared
