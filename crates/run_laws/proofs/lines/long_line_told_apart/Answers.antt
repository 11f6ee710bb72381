use Rattle.run_laws.proofs.LineRuns.{blank-accepted, form-refused, long_answered-refused, short-refused}
use Rattle.run_laws.proofs.lines.long_line_told_apart.Goals as goal

pub returns-clause-short : goal.returns-clause-short
returns-clause-short c = short-refused

pub returns-clause-form : goal.returns-clause-form
returns-clause-form c = form-refused

pub returns-clause-answered : goal.returns-clause-answered
returns-clause-answered c = long_answered-refused

pub returns-clause-blank : goal.returns-clause-blank
returns-clause-blank c = blank-accepted
