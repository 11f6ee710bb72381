use Rattle.model_laws.proofs.UncausedLives.{found-refused, outcomes-refused, placed-refused, available-refused, busy-refused, put_off-refused}
use Rattle.model_laws.proofs.uncaused.answer_of_another_act.Goals as goal

pub returns-clause-found : goal.returns-clause-found
returns-clause-found c = found-refused

pub returns-clause-outcomes : goal.returns-clause-outcomes
returns-clause-outcomes c = outcomes-refused

pub returns-clause-placed : goal.returns-clause-placed
returns-clause-placed c = placed-refused

pub returns-clause-available : goal.returns-clause-available
returns-clause-available c = available-refused

pub returns-clause-busy : goal.returns-clause-busy
returns-clause-busy c = busy-refused

pub returns-clause-later : goal.returns-clause-later
returns-clause-later c = put_off-refused
