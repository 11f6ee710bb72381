use Rattle.model_laws.proofs.UncausedLives.{made_twice-refused}
use Rattle.model_laws.proofs.uncaused.second_init_done.Goals as goal

pub returns : goal.returns
returns c = made_twice-refused
