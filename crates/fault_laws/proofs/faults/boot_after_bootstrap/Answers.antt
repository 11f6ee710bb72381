use Rattle.fault_laws.proofs.BrokenFaults.{boot_bootstrapped-refused}
use Rattle.fault_laws.proofs.faults.boot_after_bootstrap.Goals as goal

pub returns : goal.returns
returns c = boot_bootstrapped-refused
