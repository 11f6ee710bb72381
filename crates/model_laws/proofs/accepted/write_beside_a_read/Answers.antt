use Rattle.model_laws.proofs.AcceptedLives.{write_beside-found, write_beside-not_found}
use Rattle.model_laws.proofs.accepted.write_beside_a_read.Goals as goal

pub returns-clause-found : goal.returns-clause-found
returns-clause-found c = write_beside-found

pub returns-clause-not_found : goal.returns-clause-not_found
returns-clause-not_found c = write_beside-not_found
