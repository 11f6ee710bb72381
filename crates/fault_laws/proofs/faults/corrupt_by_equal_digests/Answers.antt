use Rattle.fault_laws.proofs.BrokenFaults.{equal_digests-refused}
use Rattle.fault_laws.proofs.faults.corrupt_by_equal_digests.Goals as goal

pub returns : goal.returns
returns c = equal_digests-refused
