use Rattle.model_laws.proofs.RefusedLives.{without_kept_point-refused}
use Rattle.model_laws.proofs.refused.left_out_before_expiry.Goals as goal

pub returns : goal.returns
returns c = without_kept_point-refused
