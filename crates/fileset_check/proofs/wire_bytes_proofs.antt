pub use Rattle.fileset_read.proofs.wire_bytes_proofs.EntryLemmas
pub use Rattle.fileset_read.proofs.wire_bytes_proofs.FieldLemmas
pub use Rattle.fileset_read.proofs.wire_bytes_proofs.VolumeLemmas
