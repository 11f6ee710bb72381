use Rattle.std.proofs.Common.{◌≡◌, take}
use Rattle.first_cluster.specs.Slots.{slots_in}
use Rattle.first_cluster.proofs.plan.slots_in.Given as goal

abbrev pub invariant-loop-start : goal.invariant-loop-start
invariant-loop-start l = l.slots.items ≡ slots_in (take l.start-index l.starts)
