use Rattle.move_laws.proofs.PlannedLives.{last_version, no_version}
use Rattle.move_laws.proofs.steps.versions_to_the_last.Goals as goal

pub returns-clause-last : goal.returns-clause-last
returns-clause-last c = last_version

pub returns-clause-none : goal.returns-clause-none
returns-clause-none c = no_version
