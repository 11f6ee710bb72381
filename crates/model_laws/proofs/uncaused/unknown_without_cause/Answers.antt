use Rattle.model_laws.proofs.UncausedLives.{unknown_there-refused, unknown_other-refused}
use Rattle.model_laws.proofs.uncaused.unknown_without_cause.Goals as goal

pub returns-clause-there : goal.returns-clause-there
returns-clause-there c = unknown_there-refused

pub returns-clause-other : goal.returns-clause-other
returns-clause-other c = unknown_other-refused
