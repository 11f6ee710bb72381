use Rattle.join_laws.proofs.LimitLives.{stopped-refused}
use Rattle.join_laws.proofs.limits.limit_of_stopped_peers.Goals as goal

pub returns : goal.returns
returns c = stopped-refused
