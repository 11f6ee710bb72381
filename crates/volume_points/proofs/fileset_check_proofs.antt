pub use Rattle.fileset_check.proofs.BodyLemmas
