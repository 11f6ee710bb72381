use Rattle.join_laws.proofs.BlamedLives.{boot-refused, down-blamed, open-blamed, running-refused, stopped_open-refused}
use Rattle.join_laws.proofs.blamed.standing_without_cause.Goals as goal

pub returns-clause-open : goal.returns-clause-open
returns-clause-open c = open-blamed

pub returns-clause-down : goal.returns-clause-down
returns-clause-down c = down-blamed

pub returns-clause-running : goal.returns-clause-running
returns-clause-running c = running-refused

pub returns-clause-boot : goal.returns-clause-boot
returns-clause-boot c = boot-refused

pub returns-clause-stopped_open : goal.returns-clause-stopped_open
returns-clause-stopped_open c = stopped_open-refused
