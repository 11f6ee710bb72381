use Rattle.replica_machine.proofs.BaseSteps as steps
use Rattle.replica_machine.proofs.laws.steps_over_files.Goals as goal

pub returns : goal.returns
returns g c = steps.steps_over_files g.D.Disk.state
