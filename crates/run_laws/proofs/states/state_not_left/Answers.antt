use Rattle.run_laws.proofs.StateRuns.{nothing-refused, place-refused, seed-refused, skipped-refused}
use Rattle.run_laws.proofs.states.state_not_left.Goals as goal

pub returns-clause-skipped : goal.returns-clause-skipped
returns-clause-skipped c = skipped-refused

pub returns-clause-seed : goal.returns-clause-seed
returns-clause-seed c = seed-refused

pub returns-clause-place : goal.returns-clause-place
returns-clause-place c = place-refused

pub returns-clause-nothing : goal.returns-clause-nothing
returns-clause-nothing c = nothing-refused
