use Rattle.join_laws.proofs.JoinedLives.{nobody-refused, one-refused}
use Rattle.join_laws.proofs.joined.fewer_than_majority.Goals as goal

pub returns-clause-nobody : goal.returns-clause-nobody
returns-clause-nobody c = nobody-refused

pub returns-clause-one : goal.returns-clause-one
returns-clause-one c = one-refused
