use Rattle.move_laws.proofs.PlannedLives.{added-caused, second-lawful, second_moved-refused, none_moved-refused, other_version-refused}
use Rattle.move_laws.proofs.steps.added_node_takes_first.Goals as goal

pub returns-clause-first : goal.returns-clause-first
returns-clause-first c = added-caused

pub returns-clause-lawful : goal.returns-clause-lawful
returns-clause-lawful c = second-lawful

pub returns-clause-second : goal.returns-clause-second
returns-clause-second c = second_moved-refused

pub returns-clause-none : goal.returns-clause-none
returns-clause-none c = none_moved-refused

pub returns-clause-told : goal.returns-clause-told
returns-clause-told c = other_version-refused
