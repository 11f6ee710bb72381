use Rattle.first_placement.proofs.FirstLemmas.{ShardsBelow}
use Rattle.first_placement.proofs.initial.placed_shards.Given as goal

abbrev pub invariant-loop-number : goal.invariant-loop-number
invariant-loop-number l = ShardsBelow l.rf l.instances l.loads.items l.next.items l.number
