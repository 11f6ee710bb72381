use Rattle.move_laws.proofs.BootLives.{nobody-refused}
use Rattle.move_laws.proofs.bootstraps.placement_of_nobody.Goals as goal

pub returns : goal.returns
returns c = nobody-refused
