use Rattle.first_cluster.proofs.BareLemmas.{returned_bare}
use Rattle.first_cluster.proofs.laws.returned_bare.Goals as goal

pub returns : goal.returns
returns g c = returned_bare g.D.Disk.state
