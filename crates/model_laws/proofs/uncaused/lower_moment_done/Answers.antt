use Rattle.model_laws.proofs.UncausedLives.{lower_moment-refused}
use Rattle.model_laws.proofs.uncaused.lower_moment_done.Goals as goal

pub returns : goal.returns
returns c = lower_moment-refused
