use Rattle.fault_laws.proofs.DeliveryLives.{unknown-refused}
use Rattle.fault_laws.proofs.deliveries.message_of_unknown_write.Goals as goal

pub returns : goal.returns
returns c = unknown-refused
