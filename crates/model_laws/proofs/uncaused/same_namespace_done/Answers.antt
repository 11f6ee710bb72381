use Rattle.model_laws.proofs.UncausedLives.{same_namespace-refused}
use Rattle.model_laws.proofs.uncaused.same_namespace_done.Goals as goal

pub returns : goal.returns
returns c = same_namespace-refused
