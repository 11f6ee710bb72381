use Rattle.std.proofs.Common.{◌≡◌, ◌&&◌, false, nat_eq, take}
use Rattle.std.specs.Cmp.Lexicographic.{pointwise}
use Rattle.std.specs.List.{list_any}
use Rattle.placement_plan.proofs.nodes.listed_node.Given as goal

-- none so far is listed by the name
abbrev pub invariant-loop-number : goal.invariant-loop-number
invariant-loop-number l = list_any (λ node. node.listed && pointwise nat_eq l.name node.name) (take l.number l.instances) ≡ false
