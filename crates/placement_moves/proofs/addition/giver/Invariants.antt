use Rattle.std.proofs.Common.{slice_index}
use Rattle.placement_plan.specs.Additions.{MayGiveShard, giving_cmp}
use Rattle.placement_plan.proofs.ChoiceLemmas.{BestBelow}
use Rattle.placement_moves.proofs.addition.giver.Given as goal

abbrev pub invariant-loop-number : goal.invariant-loop-number
invariant-loop-number l = BestBelow (giving_cmp l.instances (slice_index l.loads)) (MayGiveShard (slice_index l.loads) l.instances l.shards l.to) l.number l.best
