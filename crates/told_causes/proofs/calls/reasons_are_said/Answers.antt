use Rattle.told_causes.proofs.CallLemmas.{reasons_said}
use Rattle.told_causes.proofs.calls.reasons_are_said.Goals as goal

pub returns : goal.returns
returns c = λ tells. reasons_said
