use Rattle.model_laws.proofs.UncausedLives.{acks_repeated-refused}
use Rattle.model_laws.proofs.uncaused.acks_repeated.Goals as goal

pub returns : goal.returns
returns c = acks_repeated-refused
