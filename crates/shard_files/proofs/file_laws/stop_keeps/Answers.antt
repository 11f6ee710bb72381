use Rattle.shard_files.proofs.KeepLemmas.{stop_keeps as it}
use Rattle.shard_files.proofs.file_laws.stop_keeps.Goals as goal

pub returns : goal.returns
returns g c = it g.D.Disk.state g.met.D.Disk.lawful
