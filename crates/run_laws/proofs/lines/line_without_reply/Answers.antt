use Rattle.run_laws.proofs.LineRuns.{memory-refused, passed-refused, silent-refused}
use Rattle.run_laws.proofs.lines.line_without_reply.Goals as goal

pub returns-clause-passed : goal.returns-clause-passed
returns-clause-passed c = passed-refused

pub returns-clause-refused : goal.returns-clause-refused
returns-clause-refused c = memory-refused

pub returns-clause-silent : goal.returns-clause-silent
returns-clause-silent c = silent-refused
