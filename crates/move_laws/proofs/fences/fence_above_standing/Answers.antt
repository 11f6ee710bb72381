use Rattle.move_laws.proofs.FenceLives.{above_standing-refused}
use Rattle.move_laws.proofs.fences.fence_above_standing.Goals as goal

pub returns : goal.returns
returns c = above_standing-refused
