pub use Rattle.fileset_read.proofs.NameLemmas
