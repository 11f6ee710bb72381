use Rattle.fault_laws.proofs.DeliveryLives.{down-caused, stopped-refused}
use Rattle.fault_laws.proofs.deliveries.stopped_node_took_late.Goals as goal

pub returns-clause-down : goal.returns-clause-down
returns-clause-down c = down-caused

pub returns-clause-took : goal.returns-clause-took
returns-clause-took c = stopped-refused
