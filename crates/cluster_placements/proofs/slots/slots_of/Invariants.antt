use Rattle.std.proofs.Common.{◌≡◌, ◌++◌, take}
use Rattle.first_cluster.specs.Slots.{slots_from}
use Rattle.cluster_placements.proofs.ListedLemmas.{slots_in}
use Rattle.cluster_placements.proofs.slots.slots_of.Given as goal

abbrev pub invariant-loop-shard : goal.invariant-loop-shard
invariant-loop-shard l = l.slots.items ≡ slots_from 0 (take l.shard l.place.shards)

abbrev pub invariant-loop-assignment : goal.invariant-loop-assignment
invariant-loop-assignment l = l.slots.items ≡ slots_from 0 (take l.shard l.place.shards) ++ slots_in l.shard (take l.assignment-index l.assignment-items)
