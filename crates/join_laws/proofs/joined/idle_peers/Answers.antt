use Rattle.join_laws.proofs.JoinedLives.{half_idle-refused, idle-refused}
use Rattle.join_laws.proofs.joined.idle_peers.Goals as goal

pub returns-clause-restarted : goal.returns-clause-restarted
returns-clause-restarted c = idle-refused

pub returns-clause-shard : goal.returns-clause-shard
returns-clause-shard c = half_idle-refused
