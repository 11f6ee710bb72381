use Rattle.model_laws.proofs.RefusedLives.{with_point-refused}
use Rattle.model_laws.proofs.UncausedLives.{later_read-refused}
use Rattle.std.proofs.Common.{refl}
use Rattle.model_laws.proofs.refused.later_write_read.Goals as goal

pub returns-clause-later : goal.returns-clause-later
returns-clause-later c = later_read-refused

pub returns-clause-order : goal.returns-clause-order
returns-clause-order c = with_point-refused _ refl refl

pub returns-clause-unknown : goal.returns-clause-unknown
returns-clause-unknown c = with_point-refused _ refl refl
