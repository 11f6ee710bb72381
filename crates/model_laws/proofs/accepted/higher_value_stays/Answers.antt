use Rattle.model_laws.proofs.AcceptedLives.{three_values-kept}
use Rattle.model_laws.proofs.accepted.higher_value_stays.Goals as goal

pub returns : goal.returns
returns c = three_values-kept
