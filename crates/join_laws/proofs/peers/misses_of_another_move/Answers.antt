use Rattle.join_laws.proofs.PeerLives.{other_node-refused, uncovered-refused}
use Rattle.join_laws.proofs.peers.misses_of_another_move.Goals as goal

pub returns-clause-shard : goal.returns-clause-shard
returns-clause-shard c = uncovered-refused

pub returns-clause-node : goal.returns-clause-node
returns-clause-node c = other_node-refused
