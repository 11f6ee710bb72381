use Rattle.std.proofs.Common.{◌≡◌, ◌++◌, take}
use Rattle.cluster_core.proofs.replica_state.add_all.Given as goal

abbrev pub invariant-loop-point : goal.invariant-loop-point
invariant-loop-point l = l.list ≡ l.fn.list ++ take l.point-index l.points
