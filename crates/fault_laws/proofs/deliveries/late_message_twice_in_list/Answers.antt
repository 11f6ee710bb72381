use Rattle.fault_laws.proofs.DeliveryLives.{again-caused, again-refused}
use Rattle.fault_laws.proofs.deliveries.late_message_twice_in_list.Goals as goal

pub returns-clause-once : goal.returns-clause-once
returns-clause-once c = again-caused

pub returns-clause-twice : goal.returns-clause-twice
returns-clause-twice c = again-refused
