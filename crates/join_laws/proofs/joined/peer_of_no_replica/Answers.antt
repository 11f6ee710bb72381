use Rattle.join_laws.proofs.JoinedLives.{itself-refused, left-refused, nowhere-refused}
use Rattle.join_laws.proofs.joined.peer_of_no_replica.Goals as goal

pub returns-clause-left : goal.returns-clause-left
returns-clause-left c = left-refused

pub returns-clause-itself : goal.returns-clause-itself
returns-clause-itself c = itself-refused

pub returns-clause-nowhere : goal.returns-clause-nowhere
returns-clause-nowhere c = nowhere-refused
