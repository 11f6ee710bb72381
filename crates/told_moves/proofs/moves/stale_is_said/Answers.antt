use Rattle.told_moves.proofs.StaleLemmas.{stale_said}
use Rattle.told_moves.proofs.moves.stale_is_said.Goals as goal

pub returns : goal.returns
returns c = stale_said
