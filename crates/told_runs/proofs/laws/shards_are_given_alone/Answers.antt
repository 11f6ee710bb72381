use Rattle.told_runs.proofs.CausedLemmas.{given_alone}
use Rattle.told_runs.proofs.laws.shards_are_given_alone.Goals as goal

pub returns : goal.returns
returns c = λ tells. given_alone
