use Rattle.join_laws.proofs.JoinedLives.{stopped-refused}
use Rattle.join_laws.proofs.joined.stopped_peers.Goals as goal

pub returns : goal.returns
returns c = stopped-refused
