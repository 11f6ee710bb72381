use Rattle.replica_machine.proofs.NumberLemmas as numbers
use Rattle.replica_machine.proofs.laws.numbers_are_known.Goals as goal

pub returns : goal.returns
returns g c = numbers.numbers_are_known g.D.Disk.state
