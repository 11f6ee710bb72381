use Rattle.model_laws.proofs.RefusedLives.{with_other_point-refused}
use Rattle.model_laws.proofs.refused.unwritten_point.Goals as goal

pub returns : goal.returns
returns c = with_other_point-refused
