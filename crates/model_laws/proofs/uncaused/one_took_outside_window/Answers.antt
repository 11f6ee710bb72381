use Rattle.model_laws.proofs.UncausedLives.{one_took-refused}
use Rattle.model_laws.proofs.uncaused.one_took_outside_window.Goals as goal

pub returns : goal.returns
returns c = one_took-refused
