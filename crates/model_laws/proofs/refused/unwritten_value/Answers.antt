use Rattle.model_laws.proofs.RefusedLives.{with_higher_value-refused}
use Rattle.model_laws.proofs.refused.unwritten_value.Goals as goal

pub returns : goal.returns
returns c = with_higher_value-refused
