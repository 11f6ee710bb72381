use Rattle.move_laws.proofs.FenceLives.{own_line-refused}
use Rattle.move_laws.proofs.fences.fence_of_own_line.Goals as goal

pub returns : goal.returns
returns c = own_line-refused
