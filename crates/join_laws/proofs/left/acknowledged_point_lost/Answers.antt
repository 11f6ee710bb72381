use Rattle.join_laws.proofs.LeftLives.{live-refused, lower-refused, one-refused}
use Rattle.join_laws.proofs.left.acknowledged_point_lost.Goals as goal

pub returns-clause-one : goal.returns-clause-one
returns-clause-one c = one-refused

pub returns-clause-lower : goal.returns-clause-lower
returns-clause-lower c = lower-refused

pub returns-clause-live : goal.returns-clause-live
returns-clause-live c = live-refused
