use Rattle.model_laws.proofs.UncausedLives.{boot-refused}
use Rattle.model_laws.proofs.uncaused.boot_without_restart.Goals as goal

pub returns : goal.returns
returns c = boot-refused
