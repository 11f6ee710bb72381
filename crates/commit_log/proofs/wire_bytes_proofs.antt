pub use Rattle.log_chunks.proofs.wire_bytes_proofs.EntryLemmas
pub use Rattle.log_chunks.proofs.wire_bytes_proofs.FieldLemmas
pub use Rattle.log_chunks.proofs.wire_bytes_proofs.NumberLemmas
pub use Rattle.log_chunks.proofs.wire_bytes_proofs.PointLemmas
pub use Rattle.log_chunks.proofs.wire_bytes_proofs.StopLemmas
pub use Rattle.log_chunks.proofs.wire_bytes_proofs.VolumeLemmas
