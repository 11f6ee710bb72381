pub use Rattle.fileset_read.proofs.volume_bytes_proofs.RowLemmas
