use Rattle.fault_laws.proofs.DeliveryLives.{beside-caused, beside-refused}
use Rattle.fault_laws.proofs.deliveries.late_message_twice_beside.Goals as goal

pub returns-clause-once : goal.returns-clause-once
returns-clause-once c = beside-caused

pub returns-clause-twice : goal.returns-clause-twice
returns-clause-twice c = beside-refused
