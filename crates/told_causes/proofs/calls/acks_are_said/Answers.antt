use Rattle.told_causes.proofs.CallLemmas.{acks_said, taken_said}
use Rattle.told_causes.proofs.calls.acks_are_said.Goals as goal

pub returns-clause-served : goal.returns-clause-served
returns-clause-served c = λ tells. taken_said

pub returns-clause-acks : goal.returns-clause-acks
returns-clause-acks c = λ tells. acks_said
