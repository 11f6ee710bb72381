pub mod Segment
pub mod Offsets
pub mod m3_model
pub mod m3_outside
pub mod wire_bytes
pub use Rattle.wire_bytes.specs.Fields
