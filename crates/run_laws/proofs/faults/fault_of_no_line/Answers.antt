use Rattle.run_laws.proofs.FaultRuns.{damage-refused, later-refused}
use Rattle.run_laws.proofs.faults.fault_of_no_line.Goals as goal

pub returns-clause-later : goal.returns-clause-later
returns-clause-later c = later-refused

pub returns-clause-damage : goal.returns-clause-damage
returns-clause-damage c = damage-refused
