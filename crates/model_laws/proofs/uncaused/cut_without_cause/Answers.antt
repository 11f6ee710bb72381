use Rattle.model_laws.proofs.UncausedLives.{cut-refused}
use Rattle.model_laws.proofs.uncaused.cut_without_cause.Goals as goal

pub returns : goal.returns
returns c = cut-refused
