use Rattle.fault_laws.proofs.BrokenFaults.{bootstrapped_stopped-refused}
use Rattle.fault_laws.proofs.faults.stopped_node_bootstrapped.Goals as goal

pub returns : goal.returns
returns c = bootstrapped_stopped-refused
