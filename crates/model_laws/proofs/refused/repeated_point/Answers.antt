use Rattle.model_laws.proofs.RefusedLives.{with_point_twice-refused}
use Rattle.model_laws.proofs.refused.repeated_point.Goals as goal

pub returns : goal.returns
returns c = with_point_twice-refused
