use Rattle.std.proofs.Common.{◌↔◌, drop}
use Rattle.m3_model.specs.Ascends.{Ascends}
use Rattle.placement_core.proofs.ascending.ascend.Given as goal

-- the whole list is in order exactly where what is left of it is
abbrev pub invariant-loop-position : goal.invariant-loop-position
invariant-loop-position g l = Ascends g.O.Order.before l.items ↔ Ascends g.O.Order.before (drop l.position l.items)
