use Rattle.model_laws.proofs.RefusedLives.{without_untagged-refused}
use Rattle.model_laws.proofs.refused.untagged_left_out.Goals as goal

pub returns : goal.returns
returns c = without_untagged-refused
