use Rattle.std.proofs.Common.{refl}
use Rattle.told_causes.proofs.faults.faults_are_told_once.Goals as goal

pub returns-clause-twice : goal.returns-clause-twice
returns-clause-twice c = λ faults fault among different. different.0 among

pub returns-clause-once : goal.returns-clause-once
returns-clause-once c = refl
