use Rattle.join_laws.proofs.LimitLives.{limit-caused}
use Rattle.join_laws.proofs.limits.limit_at_last_version.Goals as goal

pub returns : goal.returns
returns c = limit-caused
