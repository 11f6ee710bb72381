use Rattle.placement_plan.specs.Plans.{GivesTo, IsFreed}
use Rattle.placement_plan.proofs.PlaceLemmas.{MadeBelow}
use Rattle.placement_plan.proofs.completion.freed_nodes.Given as goal

abbrev pub invariant-loop-number : goal.invariant-loop-number
invariant-loop-number l = MadeBelow (IsFreed (GivesTo l.shards l.node)) l.instances l.next.items l.number
