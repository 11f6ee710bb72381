use Rattle.placement_plan.specs.Plans.{EndsAsNamed}
use Rattle.placement_plan.proofs.PlaceLemmas.{MadeBelow}
use Rattle.placement_plan.proofs.completion.ended_shards.Given as goal

abbrev pub invariant-loop-number : goal.invariant-loop-number
invariant-loop-number l = MadeBelow (EndsAsNamed l.done) l.shards l.next.items l.number
