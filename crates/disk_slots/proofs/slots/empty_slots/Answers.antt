use Rattle.std.proofs.Common.{arith, refl}
use Rattle.disk_slots.proofs.SlotLemmas.{empty_push}
use Rattle.disk_slots.proofs.slots.empty_slots.Goals as goal

pub loop-preserved : goal.loop-preserved
loop-preserved g c =
    let e = c.in_ok-push.ensures in
    record { counted = omega (arith, e.len); empty = rw e.items (empty_push _ _ c.loop.invariant.empty refl) }
