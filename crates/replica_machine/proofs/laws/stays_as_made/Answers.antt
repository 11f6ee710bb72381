use Rattle.replica_machine.proofs.OpeningLemmas as openings
use Rattle.replica_machine.proofs.laws.stays_as_made.Goals as goal

pub returns : goal.returns
returns g c = openings.stays_as_made g.D.Disk.state
