use Rattle.join_laws.proofs.JoinedLives.{joining-no_peer}
use Rattle.join_laws.proofs.joined.joining_node_is_no_peer.Goals as goal

pub returns : goal.returns
returns c = joining-no_peer
