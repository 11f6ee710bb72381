use Rattle.run_laws.proofs.FaultRuns.{another-refused, taking-refused, two-refused}
use Rattle.run_laws.proofs.faults.more_faults_than_counted.Goals as goal

pub returns-clause-two : goal.returns-clause-two
returns-clause-two c = two-refused

pub returns-clause-another : goal.returns-clause-another
returns-clause-another c = another-refused

pub returns-clause-taking : goal.returns-clause-taking
returns-clause-taking c = taking-refused
