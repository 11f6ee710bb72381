use Rattle.model_laws.proofs.UncausedLives.{reason_repeated-refused}
use Rattle.model_laws.proofs.uncaused.reason_repeated.Goals as goal

pub returns : goal.returns
returns c = reason_repeated-refused
