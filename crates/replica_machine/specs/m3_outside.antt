pub use Rattle.m3_outside.specs.DiskCalls
pub use Rattle.m3_outside.specs.DiskState
pub use Rattle.m3_outside.specs.declared
