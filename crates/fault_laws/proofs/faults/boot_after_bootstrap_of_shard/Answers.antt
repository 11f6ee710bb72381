use Rattle.fault_laws.proofs.FaultLives.{boot_of_another-caused}
use Rattle.fault_laws.proofs.BrokenFaults.{boot_covered-refused}
use Rattle.fault_laws.proofs.faults.boot_after_bootstrap_of_shard.Goals as goal

pub returns-clause-other_node : goal.returns-clause-other_node
returns-clause-other_node c = boot_of_another-caused

pub returns-clause-covering : goal.returns-clause-covering
returns-clause-covering c = boot_covered-refused
