use Rattle.model_laws.proofs.UncausedLives.{more_than_needed-refused}
use Rattle.model_laws.proofs.uncaused.more_than_needed.Goals as goal

pub returns : goal.returns
returns c = more_than_needed-refused
