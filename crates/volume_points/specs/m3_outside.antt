pub use Rattle.fileset_check.specs.m3_outside.Causes
pub use Rattle.fileset_check.specs.m3_outside.DiskCalls
pub use Rattle.fileset_check.specs.m3_outside.DiskState
pub use Rattle.fileset_check.specs.m3_outside.Files
