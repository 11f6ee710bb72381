use Rattle.cluster_upkeep.specs.Rows.{AreRowsBelow}
use Rattle.cluster_upkeep.proofs.rows.all_rows.Given as goal

abbrev pub invariant-loop-shard : goal.invariant-loop-shard
invariant-loop-shard l = AreRowsBelow l.place l.shard l.rows.items
