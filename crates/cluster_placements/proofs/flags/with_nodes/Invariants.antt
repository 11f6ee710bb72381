use Rattle.std.proofs.Common.{◌≡◌, ◌++◌, replicate, false}
use Rattle.cluster_placements.proofs.flags.with_nodes.Given as goal

abbrev pub invariant-loop : goal.invariant-loop
invariant-loop l = l.flags.items ≡ l.stopped ++ replicate l.counter false
