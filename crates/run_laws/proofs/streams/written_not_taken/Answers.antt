use Rattle.run_laws.proofs.StreamRuns.{nothing_taken-refused, order-refused, twice-refused}
use Rattle.run_laws.proofs.streams.written_not_taken.Goals as goal

pub returns-clause-nothing : goal.returns-clause-nothing
returns-clause-nothing c = nothing_taken-refused

pub returns-clause-twice : goal.returns-clause-twice
returns-clause-twice c = twice-refused

pub returns-clause-order : goal.returns-clause-order
returns-clause-order c = order-refused
