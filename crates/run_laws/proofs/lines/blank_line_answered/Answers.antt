use Rattle.run_laws.proofs.LineRuns.{blank_answered-refused, blank_refused-refused, blank_text-refused}
use Rattle.run_laws.proofs.lines.blank_line_answered.Goals as goal

pub returns-clause-answered : goal.returns-clause-answered
returns-clause-answered c = blank_answered-refused

pub returns-clause-refused : goal.returns-clause-refused
returns-clause-refused c = blank_refused-refused

pub returns-clause-text : goal.returns-clause-text
returns-clause-text c = blank_text-refused
