pub use Rattle.m3_model.specs.Answers
pub use Rattle.m3_model.specs.Ascends
pub use Rattle.m3_model.specs.Contents
pub use Rattle.m3_model.specs.Keys
pub use Rattle.m3_model.specs.Members
pub use Rattle.m3_model.specs.Reads
pub use Rattle.m3_model.specs.Tags
pub use Rattle.m3_model.specs.declared
