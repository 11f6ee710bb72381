use Rattle.join_laws.proofs.LeftLives.{held-refused, none-refused}
use Rattle.join_laws.proofs.left.state_lost.Goals as goal

pub returns-clause-none : goal.returns-clause-none
returns-clause-none c = none-refused

pub returns-clause-held : goal.returns-clause-held
returns-clause-held c = held-refused
