use Rattle.told_moves.proofs.OwnLemmas.{streams_owned}
use Rattle.told_moves.proofs.moves.streams_are_owned.Goals as goal

pub returns : goal.returns
returns c = λ tells. streams_owned
