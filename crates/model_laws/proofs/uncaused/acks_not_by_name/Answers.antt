use Rattle.model_laws.proofs.UncausedLives.{acks_not_by_name-refused}
use Rattle.model_laws.proofs.uncaused.acks_not_by_name.Goals as goal

pub returns : goal.returns
returns c = acks_not_by_name-refused
