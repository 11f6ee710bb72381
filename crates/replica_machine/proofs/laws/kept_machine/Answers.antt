use Rattle.replica_machine.proofs.RearrangedLemmas as rearranged
use Rattle.replica_machine.proofs.laws.kept_machine.Goals as goal

pub returns : goal.returns
returns g c = rearranged.kept_machine g.D.Disk.state
