use Rattle.fault_laws.proofs.FaultKindLives.{untaken_write-refused, damaged_write-refused, untaken_restart-refused, failed_init-refused}
use Rattle.fault_laws.proofs.fault_kinds.disk_of_another_kind.Goals as goal

pub returns-clause-untaken : goal.returns-clause-untaken
returns-clause-untaken c = untaken_write-refused

pub returns-clause-damaged : goal.returns-clause-damaged
returns-clause-damaged c = damaged_write-refused

pub returns-clause-restart : goal.returns-clause-restart
returns-clause-restart c = untaken_restart-refused

pub returns-clause-init : goal.returns-clause-init
returns-clause-init c = failed_init-refused
