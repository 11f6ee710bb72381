use Rattle.replica_machine.proofs.OpeningLemmas as openings
use Rattle.replica_machine.proofs.laws.machine_stays_sound.Goals as goal

pub returns : goal.returns
returns g c = openings.stays_sound g.D.Disk.state
