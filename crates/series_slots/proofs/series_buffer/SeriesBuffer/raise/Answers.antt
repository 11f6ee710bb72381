use Rattle.std.proofs.Common.{◌≡◌, ap, ap₂, sym, subst, ◌∙◌, Some, None, rules, w64}
use Rattle.std.specs.Prelude.{FitsSigned, Option, ℤ}
use Rattle.std.specs.FinMap as finite
use Rattle.std.specs.FinMap.{from_sorted}
use Rattle.std.specs.Ordering.{nat_cmp}
use Rattle.std.proofs.lemmas.Int.{to_z-of_z}
use Rattle.m3_model.specs.Contents.{higher, is_higher}
use Rattle.series_slots.specs.Slots.{Slots, value_at, settled}
use Rattle.series_slots.proofs.SlotLemmas.{set_mapped, slot_got, gap_got, not_both}
use Rattle.series_slots.proofs.series_buffer.SeriesBuffer.raise.Goals as goal

pub invariant_of-self : goal.invariant_of-self
invariant_of-self c = (set_mapped c.self.inside.slots.items c.in-Ok.position c.args.t c.raise_slot-rises.new.slot c.self.invariant c.in-Ok.ensures.there).sorted

pub returns-in-Ok-clause-raised : goal.returns-in-Ok-clause-raised
returns-in-Ok-clause-raised c =
    let items = c.self.inside.slots.items in
    let fits : FitsSigned w64 c.args.v = search rules in
    let at : c.index.result.now.1 ≡ value_at (from_sorted {R = nat_cmp} items) c.args.t =
    sym (ap settled (slot_got items c.in-Ok.position c.args.t c.index.result.now c.self.invariant c.in-Ok.ensures.there c.index.ensures)) in
    rw (← c.self.view_is) ((set_mapped items c.in-Ok.position c.args.t c.raise_slot-rises.new.slot c.self.invariant c.in-Ok.ensures.there).mapped
    ∙ ap (finite.insert (from_sorted {R = nat_cmp} items) c.args.t)
    (c.raise_slot-rises.ensures.raised ∙ ap₂ (λ (o : Option ℤ) (z : ℤ). Some (higher o z)) at (to_z-of_z w64 c.args.v fits)))

pub returns-in-Ok-clause-changed : goal.returns-in-Ok-clause-changed
returns-in-Ok-clause-changed c =
    let items = c.self.inside.slots.items in
    let fits : FitsSigned w64 c.args.v = search rules in
    let at : c.index.result.now.1 ≡ value_at (from_sorted {R = nat_cmp} items) c.args.t =
    sym (ap settled (slot_got items c.in-Ok.position c.args.t c.index.result.now c.self.invariant c.in-Ok.ensures.there c.index.ensures)) in
    rw (← c.self.view_is) (c.raise_slot-rises.ensures.changed ∙ ap₂ is_higher at (to_z-of_z w64 c.args.v fits))

pub returns-in-Err-clause-raised : goal.returns-in-Err-clause-raised
returns-in-Err-clause-raised c =
    let none : finite.get c.args.self.now c.args.t ≡ None =
    subst (λ (m : Slots). finite.get m c.args.t ≡ None) c.self.view_is (gap_got c.self.inside.slots.items c.in-Err.field-0 c.args.t c.self.invariant c.in-Err.ensures.absent) in
    absurd (not_both _ none c.requires)

pub returns-in-Err-clause-changed : goal.returns-in-Err-clause-changed
returns-in-Err-clause-changed c =
    let none : finite.get c.args.self.now c.args.t ≡ None =
    subst (λ (m : Slots). finite.get m c.args.t ≡ None) c.self.view_is (gap_got c.self.inside.slots.items c.in-Err.field-0 c.args.t c.self.invariant c.in-Err.ensures.absent) in
    absurd (not_both _ none c.requires)
