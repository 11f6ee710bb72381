use Rattle.run_laws.proofs.StreamRuns.{lost_told-refused, nothing_told-refused, silent_sink-refused}
use Rattle.run_laws.proofs.streams.taken_not_told.Goals as goal

pub returns-clause-nothing : goal.returns-clause-nothing
returns-clause-nothing c = nothing_told-refused

pub returns-clause-lost : goal.returns-clause-lost
returns-clause-lost c = lost_told-refused

pub returns-clause-silent : goal.returns-clause-silent
returns-clause-silent c = silent_sink-refused
