use Rattle.move_laws.proofs.PlannedLives.{busy-caused, other_shard-refused, other_node-refused, busy_removed-refused}
use Rattle.move_laws.proofs.steps.removed_node_has_none.Goals as goal

pub returns-clause-busy : goal.returns-clause-busy
returns-clause-busy c = busy-caused

pub returns-clause-shard : goal.returns-clause-shard
returns-clause-shard c = other_shard-refused

pub returns-clause-node : goal.returns-clause-node
returns-clause-node c = other_node-refused

pub returns-clause-removed : goal.returns-clause-removed
returns-clause-removed c = busy_removed-refused
