use Rattle.placement_plan.specs.Plans.{CancelsJoining}
use Rattle.placement_plan.proofs.PlaceLemmas.{MadeBelow}
use Rattle.placement_plan.proofs.completion.cancelled_shards.Given as goal

abbrev pub invariant-loop-shard : goal.invariant-loop-shard
invariant-loop-shard l = MadeBelow (λ s. CancelsJoining l.node) l.shards l.next.items l.shard-index
