use Rattle.fault_laws.proofs.UpkeepLives.{stopped-refused, stopped_down-caused}
use Rattle.fault_laws.proofs.upkeep.stopped_node_ticks.Goals as goal

pub returns-clause-down : goal.returns-clause-down
returns-clause-down c = stopped_down-caused

pub returns-clause-done : goal.returns-clause-done
returns-clause-done c = stopped-refused
