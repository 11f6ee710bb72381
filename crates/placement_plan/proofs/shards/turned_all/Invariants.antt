use Rattle.std.proofs.Common.{◌≡◌, map, take}
use Rattle.placement_core.specs.Steps.{turned}
use Rattle.placement_plan.proofs.shards.turned_all.Given as goal

abbrev pub invariant-loop-a : goal.invariant-loop-a
invariant-loop-a l = l.next.items ≡ map (turned l.node l.state) (take l.a-index l.shard)
