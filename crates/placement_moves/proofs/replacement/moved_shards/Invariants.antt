use Rattle.placement_plan.specs.Plans.{MovesShardTo}
use Rattle.placement_plan.proofs.PlaceLemmas.{MadeBelow}
use Rattle.placement_moves.proofs.replacement.moved_shards.Given as goal

abbrev pub invariant-loop-shard : goal.invariant-loop-shard
invariant-loop-shard l = MadeBelow (λ s. MovesShardTo l.version l.from l.to) l.shards l.next.items l.shard-index
