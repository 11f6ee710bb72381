use Rattle.move_laws.proofs.FenceLives.{none_asked-refused, early-refused, cancelled-refused, others_asked-refused}
use Rattle.move_laws.proofs.fences.fence_not_asked.Goals as goal

pub returns-clause-none : goal.returns-clause-none
returns-clause-none c = none_asked-refused

pub returns-clause-early : goal.returns-clause-early
returns-clause-early c = early-refused

pub returns-clause-cancelled : goal.returns-clause-cancelled
returns-clause-cancelled c = cancelled-refused

pub returns-clause-other : goal.returns-clause-other
returns-clause-other c = others_asked-refused
