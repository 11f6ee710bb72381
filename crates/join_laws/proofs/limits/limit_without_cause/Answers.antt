use Rattle.join_laws.proofs.LimitLives.{early-refused, other-refused}
use Rattle.join_laws.proofs.limits.limit_without_cause.Goals as goal

pub returns-clause-other : goal.returns-clause-other
returns-clause-other c = other-refused

pub returns-clause-early : goal.returns-clause-early
returns-clause-early c = early-refused
