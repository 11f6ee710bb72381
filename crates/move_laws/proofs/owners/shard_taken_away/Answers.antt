use Rattle.move_laws.proofs.OwnerLives.{away-caused, taken_beside-caused, leaving-refused}
use Rattle.move_laws.proofs.owners.shard_taken_away.Goals as goal

pub returns-clause-away : goal.returns-clause-away
returns-clause-away c = away-caused

pub returns-clause-beside : goal.returns-clause-beside
returns-clause-beside c = taken_beside-caused

pub returns-clause-leaving : goal.returns-clause-leaving
returns-clause-leaving c = leaving-refused
