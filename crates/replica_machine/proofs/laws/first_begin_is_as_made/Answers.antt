use Rattle.replica_machine.proofs.OpeningLemmas as openings
use Rattle.replica_machine.proofs.laws.first_begin_is_as_made.Goals as goal

pub returns : goal.returns
returns g c = openings.first_begin_is_as_made g.D.Disk.state
