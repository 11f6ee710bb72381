pub use Rattle.listed_volumes.specs.volume_bytes.Heads
pub mod declared
