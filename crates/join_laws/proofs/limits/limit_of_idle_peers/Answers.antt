use Rattle.join_laws.proofs.LimitLives.{idle-refused}
use Rattle.join_laws.proofs.limits.limit_of_idle_peers.Goals as goal

pub returns : goal.returns
returns c = idle-refused
