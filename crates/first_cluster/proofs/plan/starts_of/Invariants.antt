use Rattle.std.proofs.Common.{◌≡◌, ◌++◌, take}
use Rattle.first_cluster.specs.Slots.{starts_from}
use Rattle.first_cluster.proofs.PlacedSlots.{starts_in}
use Rattle.first_cluster.proofs.plan.starts_of.Given as goal

abbrev pub invariant-loop-shard : goal.invariant-loop-shard
invariant-loop-shard l = l.starts.items ≡ starts_from 0 (take l.shard l.place.shards)

abbrev pub invariant-loop-assignment : goal.invariant-loop-assignment
invariant-loop-assignment l = l.starts.items ≡ starts_from 0 (take l.shard l.place.shards) ++ starts_in l.shard (take l.assignment-index l.assignment-items)
