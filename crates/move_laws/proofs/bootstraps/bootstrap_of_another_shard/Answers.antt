use Rattle.move_laws.proofs.BootLives.{uncovered-refused, other_node-refused}
use Rattle.move_laws.proofs.bootstraps.bootstrap_of_another_shard.Goals as goal

pub returns-clause-shard : goal.returns-clause-shard
returns-clause-shard c = uncovered-refused

pub returns-clause-node : goal.returns-clause-node
returns-clause-node c = other_node-refused
