use Rattle.placement_plan.specs.Additions.{MayMove}
use Rattle.placement_plan.proofs.PlaceLemmas.{NoneBelow}
use Rattle.placement_moves.proofs.addition.first_to_move.Given as goal

abbrev pub invariant-loop-number : goal.invariant-loop-number
invariant-loop-number l = NoneBelow (MayMove l.instances l.from l.to) l.shards l.number
