use Rattle.std.proofs.Common.{◌≡◌, ◌<◌, true, subst, sym, ap, ◌∙◌}
use Rattle.std.specs.FinMap.{is_sorted, from_sorted}
use Rattle.std.specs.Ordering.{nat_cmp}
use Rattle.series_slots.specs.SlotPlaces.{SlotList}
use Rattle.series_slots.proofs.SlotLemmas.{slot_within, of_some, remove_mapped, absent_mapped}
use Rattle.series_slots.proofs.series_buffer.SeriesBuffer.take.Goals as goal

pub invariant_of-self : goal.invariant_of-self
invariant_of-self c =
    let slots = c.self.inside.slots in
    let inside = subst (λ n. c.in-Ok.position < n) (sym slots.ok.0) (slot_within slots.items c.in-Ok.position c.args.t c.in-Ok.ensures.there) in
    let is = of_some c.remove.result (c.remove.ensures.variant.1 inside) c.remove.ensures.items in
    subst (λ (xs : SlotList). is_sorted nat_cmp xs ≡ true) (sym is) (remove_mapped slots.items c.in-Ok.position c.args.t c.self.invariant c.in-Ok.ensures.there).sorted

pub returns-in-Ok : goal.returns-in-Ok
returns-in-Ok c =
    let slots = c.self.inside.slots in
    let inside = subst (λ n. c.in-Ok.position < n) (sym slots.ok.0) (slot_within slots.items c.in-Ok.position c.args.t c.in-Ok.ensures.there) in
    let is = of_some c.remove.result (c.remove.ensures.variant.1 inside) c.remove.ensures.items in
    rw (← c.self.view_is) (ap (λ (xs : SlotList). from_sorted {R = nat_cmp} xs) is ∙ (remove_mapped slots.items c.in-Ok.position c.args.t c.self.invariant c.in-Ok.ensures.there).mapped)

pub returns-in-Err : goal.returns-in-Err
returns-in-Err c = rw (← c.self.view_is) (absent_mapped c.self.inside.slots.items c.in-Err.field-0 c.args.t c.self.invariant c.in-Err.ensures.absent).mapped
