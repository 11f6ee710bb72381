use Rattle.fault_laws.proofs.FaultKindLives.{after-caused, before-refused}
use Rattle.fault_laws.proofs.fault_kinds.down_by_fault_before_init.Goals as goal

pub returns-clause-after : goal.returns-clause-after
returns-clause-after c = after-caused

pub returns-clause-before : goal.returns-clause-before
returns-clause-before c = before-refused
