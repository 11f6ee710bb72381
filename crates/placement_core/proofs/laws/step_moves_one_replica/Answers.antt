use Rattle.placement_core.proofs.LawLemmas.{moves_one_replica, counted_hold_after}
use Rattle.placement_core.proofs.laws.step_moves_one_replica.Goals as goal

pub returns : goal.returns
returns c = record { moves = moves_one_replica; counted = counted_hold_after }
