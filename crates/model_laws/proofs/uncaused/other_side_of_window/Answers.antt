use Rattle.std.proofs.Common.{arith}
use Rattle.model_laws.proofs.UncausedLives.{past-refused, future-refused}
use Rattle.model_laws.proofs.uncaused.other_side_of_window.Goals as goal

pub returns-clause-below : goal.returns-clause-below
returns-clause-below c = future-refused 150 (omega arith)

pub returns-clause-above : goal.returns-clause-above
returns-clause-above c = past-refused 300 (omega arith)
