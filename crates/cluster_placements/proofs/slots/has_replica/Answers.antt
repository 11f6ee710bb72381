use Rattle.std.proofs.Common.{rules}
use Rattle.cluster_placements.proofs.HasLemmas.{found_at}
use Rattle.cluster_placements.proofs.slots.has_replica.Goals as goal

pub returns-in-Some : goal.returns-in-Some
returns-in-Some c =
    found_at c.has_node.result c.args.place.now.shards c.as_slice.result.now c.args.slot.shard c.args.slot.node c.in-Some.shard.now c.as_slice-in-Some.result.now c.as_slice.ensures (search rules) c.as_slice-in-Some.ensures c.has_node.ensures
