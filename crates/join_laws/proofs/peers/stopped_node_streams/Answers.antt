use Rattle.join_laws.proofs.PeerLives.{stopped-refused}
use Rattle.join_laws.proofs.peers.stopped_node_streams.Goals as goal

pub returns : goal.returns
returns c = stopped-refused
