use Rattle.replica_machine.proofs.OpeningLemmas as openings
use Rattle.replica_machine.proofs.laws.tenures_are_known.Goals as goal

pub returns : goal.returns
returns g c = openings.tenures_are_known g.D.Disk.state
