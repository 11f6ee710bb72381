use Rattle.std.proofs.Common.{count_by}
use Rattle.placement_core.specs.Shards.{is_steady}
use Rattle.placement_plan.proofs.AddLemmas.{BalancedBelow}
use Rattle.placement_moves.proofs.addition.rebalanced.Given as goal

abbrev pub invariant-loop-number : goal.invariant-loop-number
invariant-loop-number l = BalancedBelow l.instances l.version l.to l.shards l.next.items l.loads.items

abbrev pub decreases-loop-number : goal.decreases-loop-number
decreases-loop-number l = count_by is_steady l.next.items
