use Rattle.model_laws.proofs.CausedLives.{narrow_writes-caused}
use Rattle.model_laws.proofs.accepted.window_of_its_namespace.Goals as goal

pub returns : goal.returns
returns c = narrow_writes-caused
