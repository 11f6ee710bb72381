use Rattle.join_laws.proofs.LeftLives.{unsent-refused}
use Rattle.join_laws.proofs.left.unsent_point_held.Goals as goal

pub returns : goal.returns
returns c = unsent-refused
