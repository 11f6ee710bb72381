use Rattle.run_laws.proofs.StreamRuns.{nothing_given-refused, skipped-refused}
use Rattle.run_laws.proofs.streams.taken_not_given.Goals as goal

pub returns-clause-nothing : goal.returns-clause-nothing
returns-clause-nothing c = nothing_given-refused

pub returns-clause-skipped : goal.returns-clause-skipped
returns-clause-skipped c = skipped-refused
