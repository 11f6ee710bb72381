use Rattle.commit_log.proofs.LogLemmas.{append_grows_log as it}
use Rattle.commit_log.proofs.laws.append_grows_log.Goals as goal

pub returns : goal.returns
returns g c = it g.D.Disk.state g.met.D.Disk.lawful
