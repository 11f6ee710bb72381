use Rattle.move_laws.proofs.FenceLives.{no_move-refused}
use Rattle.move_laws.proofs.fences.fence_of_no_move.Goals as goal

pub returns : goal.returns
returns c = no_move-refused
