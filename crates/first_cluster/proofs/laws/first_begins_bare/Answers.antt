use Rattle.first_cluster.proofs.BareLemmas.{first_begins_bare}
use Rattle.first_cluster.proofs.laws.first_begins_bare.Goals as goal

pub returns : goal.returns
returns g c = first_begins_bare g.D.Disk.state g.met.D.Disk.lawful c.args.members.now
