use Rattle.model_laws.proofs.RefusedLives.{with_lower_value-refused}
use Rattle.model_laws.proofs.refused.lowered_value.Goals as goal

pub returns : goal.returns
returns c = with_lower_value-refused
