pub use Rattle.told_runs.proofs.StepLemmas
