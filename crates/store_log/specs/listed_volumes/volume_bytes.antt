pub use Rattle.joined_reads.specs.listed_volumes.volume_bytes.Heads
pub mod declared
