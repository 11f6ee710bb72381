use Rattle.fault_laws.proofs.BrokenFaults.{idle-refused, other_asked-refused}
use Rattle.fault_laws.proofs.FaultLives.{asked-caused}
use Rattle.fault_laws.proofs.faults.idle_replica_takes_nothing.Goals as goal

pub returns-clause-asked : goal.returns-clause-asked
returns-clause-asked c = asked-caused

pub returns-clause-idle : goal.returns-clause-idle
returns-clause-idle c = idle-refused

pub returns-clause-other : goal.returns-clause-other
returns-clause-other c = other_asked-refused
