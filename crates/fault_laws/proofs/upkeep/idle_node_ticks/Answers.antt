use Rattle.fault_laws.proofs.UpkeepLives.{idle-refused}
use Rattle.fault_laws.proofs.upkeep.idle_node_ticks.Goals as goal

pub returns : goal.returns
returns c = idle-refused
