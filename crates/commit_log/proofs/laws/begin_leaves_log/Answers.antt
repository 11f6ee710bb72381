use Rattle.commit_log.proofs.LogLemmas.{begin_leaves_log as it}
use Rattle.commit_log.proofs.laws.begin_leaves_log.Goals as goal

pub returns : goal.returns
returns g c = it g.D.Disk.state g.met.D.Disk.lawful
