use Rattle.join_laws.proofs.LimitLives.{room-refused}
use Rattle.join_laws.proofs.limits.joined_without_version.Goals as goal

pub returns : goal.returns
returns c = room-refused
