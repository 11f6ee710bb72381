pub use Rattle.m3_model.specs.Ascends
pub use Rattle.m3_model.specs.Limits
pub use Rattle.m3_model.specs.Members
pub use Rattle.m3_model.specs.Names
pub use Rattle.m3_model.specs.declared
