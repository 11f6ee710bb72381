use Rattle.join_laws.proofs.JoinedLives.{both-joined}
use Rattle.join_laws.proofs.joined.each_prints_its_peers.Goals as goal

pub returns : goal.returns
returns c = both-joined
