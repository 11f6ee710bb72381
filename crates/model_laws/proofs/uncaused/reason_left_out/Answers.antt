use Rattle.model_laws.proofs.UncausedLives.{reason_left_out-refused}
use Rattle.model_laws.proofs.uncaused.reason_left_out.Goals as goal

pub returns : goal.returns
returns c = reason_left_out-refused
