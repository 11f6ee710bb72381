use Rattle.model_laws.proofs.AcceptedLives.{unmet_then_read-found, unmet_then_read-not_found}
use Rattle.model_laws.proofs.CausedLives.{unmet_then_read-caused}
use Rattle.model_laws.proofs.accepted.unmet_write_may_be_read.Goals as goal

pub returns-clause-found : goal.returns-clause-found
returns-clause-found c = unmet_then_read-found

pub returns-clause-not_found : goal.returns-clause-not_found
returns-clause-not_found c = unmet_then_read-not_found

pub returns-clause-caused : goal.returns-clause-caused
returns-clause-caused c = unmet_then_read-caused
