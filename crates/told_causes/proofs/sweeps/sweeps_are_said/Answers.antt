use Rattle.told_causes.proofs.SweepLemmas.{sweeps_said}
use Rattle.told_causes.proofs.sweeps.sweeps_are_said.Goals as goal

pub returns : goal.returns
returns c = λ tells. sweeps_said
