use Rattle.model_laws.proofs.AcceptedLives.{own_write-found, own_later_write-nothing}
use Rattle.model_laws.proofs.RefusedLives.{own_write-refused, own_later_write-refused}
use Rattle.model_laws.proofs.refused.own_write_missed.Goals as goal

pub returns-clause-found : goal.returns-clause-found
returns-clause-found c = own_write-found

pub returns-clause-missed : goal.returns-clause-missed
returns-clause-missed c = own_write-refused

pub returns-clause-nothing : goal.returns-clause-nothing
returns-clause-nothing c = own_later_write-nothing

pub returns-clause-later : goal.returns-clause-later
returns-clause-later c = own_later_write-refused
