use Rattle.model_laws.proofs.UncausedLives.{full-refused}
use Rattle.model_laws.proofs.uncaused.full_in_short_run.Goals as goal

pub returns : goal.returns
returns c = full-refused
