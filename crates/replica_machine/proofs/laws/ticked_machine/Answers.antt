use Rattle.replica_machine.proofs.RearrangedLemmas as rearranged
use Rattle.replica_machine.proofs.laws.ticked_machine.Goals as goal

pub returns : goal.returns
returns g c = rearranged.ticked_machine g.D.Disk.state
