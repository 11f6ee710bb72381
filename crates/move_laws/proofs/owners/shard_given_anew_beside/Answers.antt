use Rattle.move_laws.proofs.OwnerLives.{earlier-refused, beside-caused}
use Rattle.move_laws.proofs.owners.shard_given_anew_beside.Goals as goal

pub returns-clause-earlier : goal.returns-clause-earlier
returns-clause-earlier c = earlier-refused

pub returns-clause-beside : goal.returns-clause-beside
returns-clause-beside c = beside-caused
