use Rattle.told_runs.proofs.LineLemmas.{served_afresh, served_first, served_line}
use Rattle.told_runs.proofs.lines.served_line_by_line.Goals as goal

pub returns-clause-first : goal.returns-clause-first
returns-clause-first c = λ tells. served_first

pub returns-clause-found : goal.returns-clause-found
returns-clause-found c = λ tells. served_afresh

pub returns-clause-line : goal.returns-clause-line
returns-clause-line c = λ tells. served_line
