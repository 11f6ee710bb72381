use Rattle.replica_machine.proofs.RearrangedLemmas as rearranged
use Rattle.replica_machine.proofs.laws.kept_replica.Goals as goal

pub returns : goal.returns
returns c = rearranged.kept_replica
