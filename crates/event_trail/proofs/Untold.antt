-- What is lawful over disks that tell is lawful over others.
pub use Rattle.cluster_core.proofs.UntoldLemmas.{weaker}
