use Rattle.model_laws.proofs.AcceptedLives.{after_cut-found, after_cut-not_found}
use Rattle.model_laws.proofs.accepted.unanswered_write_may_be_read.Goals as goal

pub returns-clause-found : goal.returns-clause-found
returns-clause-found c = after_cut-found

pub returns-clause-not_found : goal.returns-clause-not_found
returns-clause-not_found c = after_cut-not_found
