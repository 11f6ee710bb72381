use Rattle.volume_steps.proofs.DiskLemmas.{known_are_there as it}
use Rattle.volume_steps.proofs.laws.known_are_there.Goals as goal

pub returns : goal.returns
returns g c = it g.D.Disk.state g.met.D.Disk.lawful
