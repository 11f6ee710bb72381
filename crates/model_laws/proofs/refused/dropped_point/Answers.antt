use Rattle.model_laws.proofs.RefusedLives.{without_the_point-refused}
use Rattle.model_laws.proofs.refused.dropped_point.Goals as goal

pub returns : goal.returns
returns c = without_the_point-refused
