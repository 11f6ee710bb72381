use Rattle.model_laws.proofs.RefusedLives.{with_later_first-refused}
use Rattle.model_laws.proofs.refused.times_out_of_order.Goals as goal

pub returns : goal.returns
returns c = with_later_first-refused
