use Rattle.move_laws.proofs.OwnerLives.{one_placement-refused}
use Rattle.move_laws.proofs.owners.notowned_in_one_placement.Goals as goal

pub returns : goal.returns
returns c = one_placement-refused
