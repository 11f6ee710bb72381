use Rattle.placement_plan.specs.Plans.{MovesShardTo}
use Rattle.placement_plan.proofs.PlaceLemmas.{made_push}
use Rattle.placement_moves.proofs.replacement.moved_shards.Goals as goal

pub loop-shard-preserved : goal.loop-shard-preserved
loop-shard-preserved c =
    made_push (λ s. MovesShardTo c.args.version c.args.from c.args.to) c.args.shards.now c.loop-shard.next.items c.push.new.self.items c.loop-shard.shard-index c.shard-item.result c.in_ok-moved_shard.field-0
    c.in_ok-push.ensures.items c.loop-shard-test.true c.shard-item.is c.in_ok-moved_shard.ensures c.loop-shard.invariant
