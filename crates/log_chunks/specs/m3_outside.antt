pub use Rattle.m3_outside.specs.Causes
pub use Rattle.m3_outside.specs.DiskCalls
pub use Rattle.m3_outside.specs.DiskState
pub use Rattle.m3_outside.specs.Files
pub use Rattle.m3_outside.specs.Removal
pub use Rattle.m3_outside.specs.declared
