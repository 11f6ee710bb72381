use Rattle.move_laws.proofs.SlotLives.{made-refused, restarted-refused, bootstrapped-refused}
use Rattle.move_laws.proofs.slots.disk_of_no_replica.Goals as goal

pub returns-clause-init : goal.returns-clause-init
returns-clause-init c = made-refused

pub returns-clause-restart : goal.returns-clause-restart
returns-clause-restart c = restarted-refused

pub returns-clause-bootstrap : goal.returns-clause-bootstrap
returns-clause-bootstrap c = bootstrapped-refused
