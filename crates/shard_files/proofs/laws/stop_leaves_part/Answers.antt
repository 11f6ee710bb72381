use Rattle.shard_files.proofs.GainLemmas.{stop_leaves_part as it}
use Rattle.shard_files.proofs.laws.stop_leaves_part.Goals as goal

pub returns : goal.returns
returns g c = it g.D.Disk.state g.met.D.Disk.lawful
