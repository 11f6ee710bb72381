use Rattle.model_laws.proofs.RefusedLives.{with_empty_series-refused}
use Rattle.model_laws.proofs.refused.empty_series.Goals as goal

pub returns : goal.returns
returns c = with_empty_series-refused
