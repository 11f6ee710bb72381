use Rattle.std.proofs.Common.{◌≡◌, replicate, false}
use Rattle.first_cluster.proofs.plan.none_stopped.Given as goal

abbrev pub invariant-loop : goal.invariant-loop
invariant-loop l = l.stopped.items ≡ replicate l.counter false
