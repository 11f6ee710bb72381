use Rattle.fault_laws.proofs.BrokenFaults.{twice-refused}
use Rattle.fault_laws.proofs.faults.fault_listed_twice.Goals as goal

pub returns : goal.returns
returns c = twice-refused
