use Rattle.std.proofs.Common.{◌≡◌, ◌++◌, map, take}
use Rattle.cluster_upkeep.specs.Rows.{row_at}
use Rattle.cluster_upkeep.proofs.rows.add_shard.Given as goal

abbrev pub invariant-loop-member : goal.invariant-loop-member
invariant-loop-member l = l.rows.items ≡ l.fn.rows.items ++ map (row_at l.shard) (take l.member-index l.listed)
