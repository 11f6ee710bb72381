pub use Rattle.fileset_read.specs.m3_outside.Causes
pub use Rattle.fileset_read.specs.m3_outside.DiskCalls
pub use Rattle.fileset_read.specs.m3_outside.DiskState
pub use Rattle.fileset_read.specs.m3_outside.Files
pub use Rattle.fileset_read.specs.m3_outside.Removal
pub use Rattle.fileset_read.specs.m3_outside.declared
