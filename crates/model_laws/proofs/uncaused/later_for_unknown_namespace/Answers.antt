use Rattle.model_laws.proofs.UncausedLives.{later-refused}
use Rattle.model_laws.proofs.uncaused.later_for_unknown_namespace.Goals as goal

pub returns : goal.returns
returns c = later-refused
