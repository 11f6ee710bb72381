use Rattle.move_laws.proofs.SlotLives.{came_back-caused, given-caused, before-refused, other_shard-refused}
use Rattle.move_laws.proofs.slots.down_by_fault_before_move.Goals as goal

pub returns-clause-came_back : goal.returns-clause-came_back
returns-clause-came_back c = came_back-caused

pub returns-clause-given : goal.returns-clause-given
returns-clause-given c = given-caused

pub returns-clause-before : goal.returns-clause-before
returns-clause-before c = before-refused

pub returns-clause-other_shard : goal.returns-clause-other_shard
returns-clause-other_shard c = other_shard-refused
