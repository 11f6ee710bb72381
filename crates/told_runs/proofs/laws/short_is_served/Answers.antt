use Rattle.told_runs.proofs.SampleLemmas.{short_served}
use Rattle.told_runs.proofs.laws.short_is_served.Goals as goal

pub returns : goal.returns
returns c = short_served
