use Rattle.std.proofs.Common.{slice_index}
use Rattle.placement_plan.specs.Choices.{taking_cmp}
use Rattle.placement_plan.specs.First.{MayHold}
use Rattle.placement_plan.proofs.ChoiceLemmas.{BestBelow}
use Rattle.first_placement.proofs.initial.holder.Given as goal

abbrev pub invariant-loop-number : goal.invariant-loop-number
invariant-loop-number l = BestBelow (taking_cmp l.instances (slice_index l.loads)) (MayHold l.instances l.shard) l.number l.best
