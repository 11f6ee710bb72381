use Rattle.fault_laws.proofs.FaultLives.{stopped_and_back-caused, failed_and_back-caused}
use Rattle.fault_laws.proofs.faults.replicas_come_back.Goals as goal

pub returns-clause-stopped : goal.returns-clause-stopped
returns-clause-stopped c = stopped_and_back-caused

pub returns-clause-failed : goal.returns-clause-failed
returns-clause-failed c = failed_and_back-caused
