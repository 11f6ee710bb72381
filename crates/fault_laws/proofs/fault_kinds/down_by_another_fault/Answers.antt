use Rattle.fault_laws.proofs.FaultKindLives.{other-refused, later-refused}
use Rattle.fault_laws.proofs.fault_kinds.down_by_another_fault.Goals as goal

pub returns-clause-node : goal.returns-clause-node
returns-clause-node c = other-refused

pub returns-clause-later : goal.returns-clause-later
returns-clause-later c = later-refused
