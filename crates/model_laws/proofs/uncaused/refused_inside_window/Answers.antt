use Rattle.std.proofs.Common.{arith}
use Rattle.model_laws.proofs.UncausedLives.{past-refused, future-refused}
use Rattle.model_laws.proofs.uncaused.refused_inside_window.Goals as goal

pub returns-clause-past : goal.returns-clause-past
returns-clause-past c = past-refused 151 (omega arith)

pub returns-clause-future : goal.returns-clause-future
returns-clause-future c = future-refused 299 (omega arith)
