use Rattle.shard_files.proofs.DiskSteps.{steps_keep as it}
use Rattle.shard_files.proofs.file_laws.steps_keep.Goals as goal

pub returns : goal.returns
returns g c = it g.D.Disk.state g.met.D.Disk.lawful
