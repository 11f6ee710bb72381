use Rattle.std.proofs.Common.{slice_index}
use Rattle.placement_plan.specs.Choices.{MayTake, taking_cmp}
use Rattle.placement_plan.proofs.ChoiceLemmas.{BestBelow}
use Rattle.placement_plan.proofs.choice.taker.Given as goal

abbrev pub invariant-loop-number : goal.invariant-loop-number
invariant-loop-number l = BestBelow (taking_cmp l.instances (slice_index l.loads)) (MayTake l.instances l.shard l.from) l.number l.best
