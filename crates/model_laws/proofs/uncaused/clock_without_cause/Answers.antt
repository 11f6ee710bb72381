use Rattle.model_laws.proofs.UncausedLives.{equal_moment-refused, other_moment-refused}
use Rattle.model_laws.proofs.uncaused.clock_without_cause.Goals as goal

pub returns-clause-equal : goal.returns-clause-equal
returns-clause-equal c = equal_moment-refused

pub returns-clause-other : goal.returns-clause-other
returns-clause-other c = other_moment-refused
