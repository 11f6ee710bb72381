use Rattle.run_laws.proofs.StreamRuns.{behind-refused, lost-refused, silent-refused}
use Rattle.run_laws.proofs.streams.given_not_left.Goals as goal

pub returns-clause-behind : goal.returns-clause-behind
returns-clause-behind c = behind-refused

pub returns-clause-lost : goal.returns-clause-lost
returns-clause-lost c = lost-refused

pub returns-clause-silent : goal.returns-clause-silent
returns-clause-silent c = silent-refused
