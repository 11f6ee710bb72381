use Rattle.run_laws.proofs.StateRuns.{falls-refused, ninth-refused, twice-refused}
use Rattle.run_laws.proofs.states.refused_rules_left.Goals as goal

pub returns-clause-falls : goal.returns-clause-falls
returns-clause-falls c = falls-refused

pub returns-clause-twice : goal.returns-clause-twice
returns-clause-twice c = twice-refused

pub returns-clause-ninth : goal.returns-clause-ninth
returns-clause-ninth c = ninth-refused
