use Rattle.model_laws.proofs.UncausedLives.{write_done-refused}
use Rattle.model_laws.proofs.uncaused.done_for_a_write.Goals as goal

pub returns : goal.returns
returns c = write_done-refused
