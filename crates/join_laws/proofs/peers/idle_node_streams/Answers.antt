use Rattle.join_laws.proofs.PeerLives.{idle-refused}
use Rattle.join_laws.proofs.peers.idle_node_streams.Goals as goal

pub returns : goal.returns
returns c = idle-refused
