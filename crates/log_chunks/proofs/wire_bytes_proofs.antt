pub use Rattle.wire_bytes.proofs.EntryLemmas
pub use Rattle.wire_bytes.proofs.FieldLemmas
pub use Rattle.wire_bytes.proofs.NumberLemmas
pub use Rattle.wire_bytes.proofs.PointLemmas
pub use Rattle.wire_bytes.proofs.StopLemmas
pub use Rattle.wire_bytes.proofs.VolumeLemmas
