use Rattle.shard_store.specs.OneSnapshot.{AreBelow}
use Rattle.shard_store.proofs.snapshot.points_of.Given as goal

-- so far those of the first namespaces
abbrev pub invariant-loop-ns : goal.invariant-loop-ns
invariant-loop-ns l = AreBelow l.ns l.held.points l.points.items
