use Rattle.model_laws.proofs.UncausedLives.{write_order-refused}
use Rattle.model_laws.proofs.uncaused.order_without_cause.Goals as goal

pub returns : goal.returns
returns c = write_order-refused
