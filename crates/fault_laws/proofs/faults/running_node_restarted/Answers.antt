use Rattle.fault_laws.proofs.BrokenFaults.{restarted_running-refused}
use Rattle.fault_laws.proofs.faults.running_node_restarted.Goals as goal

pub returns : goal.returns
returns c = restarted_running-refused
