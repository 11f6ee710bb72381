use Rattle.replica_machine.proofs.RearrangedLemmas as rearranged
use Rattle.replica_machine.proofs.laws.ticked_replica.Goals as goal

pub returns : goal.returns
returns c = rearranged.ticked_replica
