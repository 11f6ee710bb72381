use Rattle.cluster_upkeep.proofs.RowLemmas.{shards_pushed}
use Rattle.cluster_upkeep.proofs.rows.all_rows.Goals as goal

pub loop-shard-preserved : goal.loop-shard-preserved
loop-shard-preserved c = shards_pushed c.args.place.now c.loop-shard.shard c.loop-shard.rows.items c.add_shard.new.rows.items c.loop-shard.invariant c.in_ok-add_shard.ensures
