use Rattle.told_causes.proofs.PeerLemmas.{peers_said}
use Rattle.told_causes.proofs.peers.peers_are_said.Goals as goal

pub returns : goal.returns
returns c = λ tells. peers_said
