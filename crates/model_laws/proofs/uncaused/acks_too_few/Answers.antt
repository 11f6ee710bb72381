use Rattle.model_laws.proofs.UncausedLives.{acks_too_few-refused}
use Rattle.model_laws.proofs.uncaused.acks_too_few.Goals as goal

pub returns : goal.returns
returns c = acks_too_few-refused
