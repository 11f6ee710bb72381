use Rattle.model_laws.proofs.RefusedLives.{with_expired_point-refused}
use Rattle.model_laws.proofs.refused.read_after_expiry.Goals as goal

pub returns : goal.returns
returns c = with_expired_point-refused
