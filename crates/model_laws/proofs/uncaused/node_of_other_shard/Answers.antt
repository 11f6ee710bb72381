use Rattle.model_laws.proofs.UncausedLives.{other_node-refused, own_shard-refused, shard_1-refused}
use Rattle.model_laws.proofs.uncaused.node_of_other_shard.Goals as goal

pub returns-clause-taken : goal.returns-clause-taken
returns-clause-taken c = other_node-refused

pub returns-clause-own_shard : goal.returns-clause-own_shard
returns-clause-own_shard c = own_shard-refused

pub returns-clause-shard_1 : goal.returns-clause-shard_1
returns-clause-shard_1 c = shard_1-refused
