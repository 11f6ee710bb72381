pub mod Shapes
pub mod Chunks
pub mod LawLemmas
pub mod Fronts
pub mod m3_model_proofs
pub mod m3_outside_proofs
pub mod wire_bytes_proofs
pub use Rattle.wire_bytes.proofs.FieldLemmas
