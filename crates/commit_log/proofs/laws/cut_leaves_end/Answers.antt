use Rattle.commit_log.proofs.CutLaws.{cut_leaves_end as it}
use Rattle.commit_log.proofs.laws.cut_leaves_end.Goals as goal

pub returns : goal.returns
returns g c = it g.D.Disk.state g.met.D.Disk.lawful
