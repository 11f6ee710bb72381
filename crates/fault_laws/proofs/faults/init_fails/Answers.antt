use Rattle.fault_laws.proofs.FaultLives.{init_failed-caused}
use Rattle.fault_laws.proofs.faults.init_fails.Goals as goal

pub returns : goal.returns
returns c = init_failed-caused
