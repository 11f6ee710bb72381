use Rattle.fault_laws.proofs.FaultLives.{restart_failed-caused}
use Rattle.fault_laws.proofs.faults.restart_fails.Goals as goal

pub returns : goal.returns
returns c = restart_failed-caused
