use Rattle.life_laws.proofs.BrokenLemmas as broken
use Rattle.life_laws.proofs.lives.disks_that_stand.Goals as goal

pub returns : goal.returns
returns g c = broken.some_files_stand g.D.Disk.state g.met.D.Disk.lawful
