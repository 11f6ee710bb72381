use Rattle.model_laws.proofs.UncausedLives.{taken_past-refused, taken_future-refused}
use Rattle.model_laws.proofs.uncaused.taken_outside_window.Goals as goal

pub returns-clause-past : goal.returns-clause-past
returns-clause-past c = taken_past-refused

pub returns-clause-future : goal.returns-clause-future
returns-clause-future c = taken_future-refused
