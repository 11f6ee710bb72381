use Rattle.fault_laws.proofs.DeliveryLives.{once-caused, two_lines-refused}
use Rattle.fault_laws.proofs.deliveries.late_message_in_two_lines.Goals as goal

pub returns-clause-once : goal.returns-clause-once
returns-clause-once c = once-caused

pub returns-clause-twice : goal.returns-clause-twice
returns-clause-twice c = two_lines-refused
