use Rattle.move_laws.proofs.PlannedLives.{new_slot-caused, old_slot-refused}
use Rattle.move_laws.proofs.steps.disk_of_new_slot.Goals as goal

pub returns-clause-taking : goal.returns-clause-taking
returns-clause-taking c = new_slot-caused

pub returns-clause-there : goal.returns-clause-there
returns-clause-there c = old_slot-refused
