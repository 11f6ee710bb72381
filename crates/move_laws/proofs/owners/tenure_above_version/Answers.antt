use Rattle.move_laws.proofs.OwnerLives.{joining-caused, returned-caused}
use Rattle.move_laws.proofs.owners.tenure_above_version.Goals as goal

pub returns-clause-joining : goal.returns-clause-joining
returns-clause-joining c = joining-caused

pub returns-clause-returned : goal.returns-clause-returned
returns-clause-returned c = returned-caused
