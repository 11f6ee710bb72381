use Rattle.fault_laws.proofs.BrokenFaults.{corrupt-refused}
use Rattle.fault_laws.proofs.faults.corrupt_by_a_fault.Goals as goal

pub returns : goal.returns
returns c = corrupt-refused
