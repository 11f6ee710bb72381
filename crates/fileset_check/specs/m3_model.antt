pub use Rattle.fileset_read.specs.m3_model.Ascends
pub use Rattle.fileset_read.specs.m3_model.Contents
pub use Rattle.fileset_read.specs.m3_model.Keys
pub use Rattle.fileset_read.specs.m3_model.Members
pub use Rattle.fileset_read.specs.m3_model.declared
