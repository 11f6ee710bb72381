use Rattle.told_runs.proofs.JoinedLemmas.{run_joined}
use Rattle.told_runs.proofs.laws.told_is_joined.Goals as goal

pub returns : goal.returns
returns c = λ tells. run_joined
