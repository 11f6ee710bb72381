use Rattle.told_runs.proofs.BrokenLemmas.{never_again, never_beside, never_order, never_elsewhere}
use Rattle.told_runs.proofs.lines.broken_lines_are_refused.Goals as goal

pub returns-clause-again : goal.returns-clause-again
returns-clause-again c = never_again

pub returns-clause-elsewhere : goal.returns-clause-elsewhere
returns-clause-elsewhere c = never_elsewhere

pub returns-clause-beside : goal.returns-clause-beside
returns-clause-beside c = never_beside

pub returns-clause-order : goal.returns-clause-order
returns-clause-order c = never_order
