use Rattle.model_laws.proofs.UncausedLives.{stop-refused, restart-refused}
use Rattle.model_laws.proofs.uncaused.state_without_cause.Goals as goal

pub returns-clause-stop : goal.returns-clause-stop
returns-clause-stop c = stop-refused

pub returns-clause-restart : goal.returns-clause-restart
returns-clause-restart c = restart-refused
