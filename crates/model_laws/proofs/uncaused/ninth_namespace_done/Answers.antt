use Rattle.model_laws.proofs.UncausedLives.{ninth-refused}
use Rattle.model_laws.proofs.uncaused.ninth_namespace_done.Goals as goal

pub returns : goal.returns
returns c = ninth-refused
