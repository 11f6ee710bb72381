use Rattle.fault_laws.proofs.BrokenFaults.{down_restarted-refused}
use Rattle.fault_laws.proofs.faults.down_after_restart.Goals as goal

pub returns : goal.returns
returns c = down_restarted-refused
