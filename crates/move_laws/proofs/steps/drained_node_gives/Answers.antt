use Rattle.move_laws.proofs.PlannedLives.{drained-caused, group_left-refused, idle_busy-refused, early_limit-refused, old_place-refused}
use Rattle.move_laws.proofs.steps.drained_node_gives.Goals as goal

pub returns-clause-moves : goal.returns-clause-moves
returns-clause-moves c = drained-caused

pub returns-clause-group : goal.returns-clause-group
returns-clause-group c = group_left-refused

pub returns-clause-busy : goal.returns-clause-busy
returns-clause-busy c = idle_busy-refused

pub returns-clause-limit : goal.returns-clause-limit
returns-clause-limit c = early_limit-refused

pub returns-clause-old : goal.returns-clause-old
returns-clause-old c = old_place-refused
