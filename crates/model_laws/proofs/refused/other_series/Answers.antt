use Rattle.model_laws.proofs.RefusedLives.{with_other_series-refused}
use Rattle.model_laws.proofs.refused.other_series.Goals as goal

pub returns : goal.returns
returns c = with_other_series-refused
