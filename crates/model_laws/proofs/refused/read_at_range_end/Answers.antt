use Rattle.model_laws.proofs.RefusedLives.{with_point_at_end-refused}
use Rattle.model_laws.proofs.refused.read_at_range_end.Goals as goal

pub returns : goal.returns
returns c = with_point_at_end-refused
