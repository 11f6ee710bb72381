pub use Rattle.commit_log.specs.m3_outside.Causes
pub use Rattle.commit_log.specs.m3_outside.DiskCalls
pub use Rattle.commit_log.specs.m3_outside.DiskState
pub use Rattle.commit_log.specs.m3_outside.Files
pub use Rattle.commit_log.specs.m3_outside.Removal
pub use Rattle.commit_log.specs.m3_outside.declared
