use Rattle.fault_laws.proofs.BrokenFaults.{bootstrapped_missing-refused}
use Rattle.fault_laws.proofs.faults.missing_shard_bootstrapped.Goals as goal

pub returns : goal.returns
returns c = bootstrapped_missing-refused
