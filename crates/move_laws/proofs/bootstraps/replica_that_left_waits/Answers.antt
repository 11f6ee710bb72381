use Rattle.move_laws.proofs.BootLives.{left-waits, stayed-refused}
use Rattle.move_laws.proofs.bootstraps.replica_that_left_waits.Goals as goal

pub returns-clause-left : goal.returns-clause-left
returns-clause-left c = left-waits

pub returns-clause-stayed : goal.returns-clause-stayed
returns-clause-stayed c = stayed-refused
