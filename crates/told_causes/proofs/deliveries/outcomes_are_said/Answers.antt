use Rattle.told_causes.proofs.DeliverLemmas.{outcomes_said}
use Rattle.told_causes.proofs.deliveries.outcomes_are_said.Goals as goal

pub returns : goal.returns
returns c = λ tells. outcomes_said
