use Rattle.model_laws.proofs.UncausedLives.{enough_took_it-refused}
use Rattle.model_laws.proofs.uncaused.enough_took_it.Goals as goal

pub returns : goal.returns
returns c = enough_took_it-refused
