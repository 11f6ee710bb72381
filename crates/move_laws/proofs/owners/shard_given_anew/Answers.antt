use Rattle.move_laws.proofs.OwnerLives.{given-caused, uncovered-caused, joined-refused, untold-caused}
use Rattle.move_laws.proofs.owners.shard_given_anew.Goals as goal

pub returns-clause-given : goal.returns-clause-given
returns-clause-given c = given-caused

pub returns-clause-uncovered : goal.returns-clause-uncovered
returns-clause-uncovered c = uncovered-caused

pub returns-clause-joined : goal.returns-clause-joined
returns-clause-joined c = joined-refused

pub returns-clause-untold : goal.returns-clause-untold
returns-clause-untold c = untold-caused
