use Rattle.std.proofs.Common.{take, sym, ◌∙◌}
use Rattle.first_cluster.specs.Slots.{slots_from}
use Rattle.first_cluster.proofs.ListLemmas.{append_nil}
use Rattle.cluster_placements.proofs.ListedLemmas.{slot_pushed, shard_pushed, shards_pushed}
use Rattle.cluster_placements.proofs.slots.slots_of.Goals as goal

pub loop-assignment-init : goal.loop-assignment-init
loop-assignment-init c = c.loop-shard.invariant ∙ sym (append_nil (slots_from 0 (take c.loop-shard.shard c.args.place.now.shards)))

pub loop-assignment-preserved : goal.loop-assignment-preserved
loop-assignment-preserved c =
    slot_pushed (slots_from 0 (take c.loop-shard.shard c.args.place.now.shards)) c.loop-shard.shard c.as_slice-assignment-items.result.now c.loop-assignment.assignment-index _ c.loop-assignment.slots.items c.push.new.self.items
    c.loop-assignment-test.true c.loop-assignment.invariant c.in_ok-push.ensures.items

pub loop-shard-preserved : goal.loop-shard-preserved
loop-shard-preserved c =
    shard_pushed c.args.place.now.shards c.as_slice-assignments-items.result.now c.loop-shard.shard c.assignments-item.result c.as_slice-assignment-items.result.now c.loop-assignment.assignment-index c.loop-assignment.slots.items
    c.as_slice-assignments-items.ensures c.loop-shard-test.true (c.as_slice-assignment-items.ensures ∙ c.assignments-item.is) c.loop-assignment-test.false c.loop-assignment.invariant

pub returns : goal.returns
returns c = shards_pushed c.args.place.now.shards c.as_slice-assignments-items.result.now c.loop-shard.shard c.loop-shard.slots.items c.as_slice-assignments-items.ensures c.loop-shard-test.false c.loop-shard.invariant
