use Rattle.placement_plan.specs.Plans.{JoinsFrom}
use Rattle.placement_plan.proofs.PlaceLemmas.{NoneBelow}
use Rattle.placement_plan.proofs.completion.gives_to.Given as goal

abbrev pub invariant-loop-shard : goal.invariant-loop-shard
invariant-loop-shard l = NoneBelow (JoinsFrom l.node l.from) l.shards l.shard-index
