use Rattle.first_placement.proofs.FirstLemmas.{PlacedBelow}
use Rattle.first_placement.proofs.initial.placed_shard.Given as goal

-- the replicas so far are placed, and the table has grown by them
abbrev pub invariant-loop-count : goal.invariant-loop-count
invariant-loop-count l = PlacedBelow l.instances l.initial.loads.items l.loads.items l.shard.items l.count
