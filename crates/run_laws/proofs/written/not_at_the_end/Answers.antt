use Rattle.run_laws.proofs.WrittenRuns.{bytes-refused, left_out-refused, lines-refused, twice-refused}
use Rattle.run_laws.proofs.written.not_at_the_end.Goals as goal

pub returns-clause-left_out : goal.returns-clause-left_out
returns-clause-left_out c = left_out-refused

pub returns-clause-twice : goal.returns-clause-twice
returns-clause-twice c = twice-refused

pub returns-clause-lines : goal.returns-clause-lines
returns-clause-lines c = lines-refused

pub returns-clause-bytes : goal.returns-clause-bytes
returns-clause-bytes c = bytes-refused
