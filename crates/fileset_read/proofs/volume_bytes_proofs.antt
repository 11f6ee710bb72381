pub use Rattle.volume_bytes.proofs.RowLemmas
