use Rattle.fault_laws.proofs.BrokenFaults.{other_node-refused, other_line-refused, other_restart-refused, other_init-refused}
use Rattle.fault_laws.proofs.faults.disk_of_another_fault.Goals as goal

pub returns-clause-node : goal.returns-clause-node
returns-clause-node c = other_node-refused

pub returns-clause-line : goal.returns-clause-line
returns-clause-line c = other_line-refused

pub returns-clause-restart : goal.returns-clause-restart
returns-clause-restart c = other_restart-refused

pub returns-clause-init : goal.returns-clause-init
returns-clause-init c = other_init-refused
