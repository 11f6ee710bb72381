use Rattle.model_laws.proofs.UncausedLives.{disk-refused}
use Rattle.model_laws.proofs.uncaused.disk_without_fault.Goals as goal

pub returns : goal.returns
returns c = disk-refused
