use Rattle.std.proofs.Common.{◌≡◌, true, subst, sym, ap, ◌∙◌, None}
use Rattle.std.specs.FinMap.{is_sorted, from_sorted}
use Rattle.std.specs.Ordering.{nat_cmp}
use Rattle.series_slots.specs.SlotPlaces.{SlotList}
use Rattle.series_slots.proofs.SlotLemmas.{set_mapped, insert_mapped}
use Rattle.series_slots.proofs.series_buffer.SeriesBuffer.hold.Goals as goal

pub invariant_of-self : goal.invariant_of-self
invariant_of-self c = (set_mapped c.self.inside.slots.items c.in-Ok.position c.args.t None c.self.invariant c.in-Ok.ensures.there).sorted

pub invariant_of-self-in-Continue-1 : goal.invariant_of-self-in-Continue-1
invariant_of-self-in-Continue-1 c =
    subst (λ (xs : SlotList). is_sorted nat_cmp xs ≡ true) (sym c.in_ok-insert-in-Err.ensures.items) (insert_mapped c.self.inside.slots.items c.in-Err.position c.args.t None c.self.invariant c.in-Err.ensures.absent).sorted

pub returns-in-Ok-clause-ok : goal.returns-in-Ok-clause-ok
returns-in-Ok-clause-ok c = rw (← c.self.view_is) (set_mapped c.self.inside.slots.items c.in-Ok.position c.args.t None c.self.invariant c.in-Ok.ensures.there).mapped

pub returns-in_ok-insert-in-Err-clause-ok : goal.returns-in_ok-insert-in-Err-clause-ok
returns-in_ok-insert-in-Err-clause-ok c =
    rw (← c.self.view_is) (ap (λ (xs : SlotList). from_sorted {R = nat_cmp} xs) c.in_ok-insert-in-Err.ensures.items
    ∙ (insert_mapped c.self.inside.slots.items c.in-Err.position c.args.t None c.self.invariant c.in-Err.ensures.absent).mapped)
