use Rattle.fault_laws.proofs.DeliveryLives.{idle_late-refused}
use Rattle.fault_laws.proofs.deliveries.idle_replica_took_late.Goals as goal

pub returns : goal.returns
returns c = idle_late-refused
