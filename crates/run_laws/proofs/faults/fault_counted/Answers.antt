use Rattle.run_laws.proofs.FaultRuns.{counted-accepted}
use Rattle.run_laws.proofs.faults.fault_counted.Goals as goal

pub returns : goal.returns
returns c = counted-accepted
