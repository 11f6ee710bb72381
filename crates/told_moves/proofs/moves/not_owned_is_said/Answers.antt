use Rattle.told_moves.proofs.OwnLemmas.{not_owned_said}
use Rattle.told_moves.proofs.moves.not_owned_is_said.Goals as goal

pub returns : goal.returns
returns c = λ tells. not_owned_said
