use Rattle.run_laws.proofs.StateRuns.{limit-refused, stopped-refused}
use Rattle.run_laws.proofs.states.refused_join_left.Goals as goal

pub returns-clause-stopped : goal.returns-clause-stopped
returns-clause-stopped c = stopped-refused

pub returns-clause-limit : goal.returns-clause-limit
returns-clause-limit c = limit-refused
