use Rattle.model_laws.proofs.UncausedLives.{write_first-refused}
use Rattle.model_laws.proofs.uncaused.ok_before_init.Goals as goal

pub returns : goal.returns
returns c = write_first-refused
