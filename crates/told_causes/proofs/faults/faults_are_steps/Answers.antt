use Rattle.told_causes.proofs.FaultLemmas.{faults_different, faults_steps, steps_faults, faults_few}
use Rattle.told_causes.proofs.faults.faults_are_steps.Goals as goal

pub returns-clause-different : goal.returns-clause-different
returns-clause-different c = faults_different

pub returns-clause-steps : goal.returns-clause-steps
returns-clause-steps c = faults_steps

pub returns-clause-told : goal.returns-clause-told
returns-clause-told c = steps_faults

pub returns-clause-few : goal.returns-clause-few
returns-clause-few c = faults_few
