use Rattle.move_laws.proofs.FenceLives.{left-of_move}
use Rattle.move_laws.proofs.fences.left_fence_is_not_above.Goals as goal

pub returns : goal.returns
returns c = left-of_move
