use Rattle.fault_laws.proofs.DeliveryLives.{nobody-refused}
use Rattle.fault_laws.proofs.deliveries.message_of_nobody.Goals as goal

pub returns : goal.returns
returns c = nobody-refused
