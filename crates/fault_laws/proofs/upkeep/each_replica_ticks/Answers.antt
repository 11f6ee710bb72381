use Rattle.fault_laws.proofs.UpkeepLives.{all-caused, left_out-refused, other-refused}
use Rattle.fault_laws.proofs.upkeep.each_replica_ticks.Goals as goal

pub returns-clause-all : goal.returns-clause-all
returns-clause-all c = all-caused

pub returns-clause-left_out : goal.returns-clause-left_out
returns-clause-left_out c = left_out-refused

pub returns-clause-other : goal.returns-clause-other
returns-clause-other c = other-refused
