use Rattle.run_laws.proofs.StateRuns.{out-refused, unused-refused}
use Rattle.run_laws.proofs.states.meta_disk_lost.Goals as goal

pub returns-clause-out : goal.returns-clause-out
returns-clause-out g c = out-refused g.X.D.Disk.state

pub returns-clause-unused : goal.returns-clause-unused
returns-clause-unused g c = unused-refused g.X.D.Disk.state
