use Rattle.told_runs.proofs.CausedLemmas.{told_caused}
use Rattle.told_runs.proofs.laws.told_is_caused.Goals as goal

pub returns : goal.returns
returns c = λ tells. told_caused
