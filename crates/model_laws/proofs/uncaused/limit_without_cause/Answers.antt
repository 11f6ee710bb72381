use Rattle.model_laws.proofs.UncausedLives.{limit-refused}
use Rattle.model_laws.proofs.uncaused.limit_without_cause.Goals as goal

pub returns : goal.returns
returns c = limit-refused
