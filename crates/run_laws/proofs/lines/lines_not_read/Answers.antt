use Rattle.run_laws.proofs.LineRuns.{another-refused, behind-refused, silent_line-refused}
use Rattle.run_laws.proofs.lines.lines_not_read.Goals as goal

pub returns-clause-another : goal.returns-clause-another
returns-clause-another c = another-refused

pub returns-clause-left_out : goal.returns-clause-left_out
returns-clause-left_out c = silent_line-refused

pub returns-clause-behind : goal.returns-clause-behind
returns-clause-behind c = behind-refused
