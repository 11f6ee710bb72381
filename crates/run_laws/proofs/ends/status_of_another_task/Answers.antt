use Rattle.run_laws.proofs.EndRuns.{idle-refused, lines-refused, script-refused}
use Rattle.run_laws.proofs.ends.status_of_another_task.Goals as goal

pub returns-clause-lines : goal.returns-clause-lines
returns-clause-lines c = lines-refused

pub returns-clause-script : goal.returns-clause-script
returns-clause-script c = script-refused

pub returns-clause-idle : goal.returns-clause-idle
returns-clause-idle c = idle-refused
