use Rattle.join_laws.proofs.PeerLives.{enough-refused, left_out-refused, needed-refused}
use Rattle.join_laws.proofs.peers.wrong_numbers.Goals as goal

pub returns-clause-needed : goal.returns-clause-needed
returns-clause-needed c = needed-refused

pub returns-clause-enough : goal.returns-clause-enough
returns-clause-enough c = enough-refused

pub returns-clause-left_out : goal.returns-clause-left_out
returns-clause-left_out c = left_out-refused
