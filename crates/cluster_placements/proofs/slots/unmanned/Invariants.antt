use Rattle.std.proofs.Common.{◌≡◌, take}
use Rattle.std.specs.Prelude.{filter, is_none}
use Rattle.std.specs.FinMap.{get}
use Rattle.cluster_placements.proofs.slots.unmanned.Given as goal

abbrev pub invariant-loop-slot : goal.invariant-loop-slot
invariant-loop-slot g l = l.new.items ≡ filter (λ s. is_none (get l.replicas.members s)) (take l.slot-index l.slots)
