use Rattle.placement_plan.proofs.DrainLemmas.{DrainedBelow}
use Rattle.placement_moves.proofs.drainage.all_moved_away.Given as goal

abbrev pub invariant-loop-number : goal.invariant-loop-number
invariant-loop-number l = DrainedBelow l.instances l.version l.node l.shards l.next.items l.loads.items l.number
