use Rattle.std.proofs.Common.{◌≡◌, ℤ, None, Some, ◌∷◌, ap, sym, subst, ◌∙◌, length, rules, w64}
use Rattle.std.specs.Prelude.{FitsSigned, slice_range}
use Rattle.std.specs.FinMap.{from_sorted}
use Rattle.std.specs.Ordering.{nat_cmp}
use Rattle.std.specs.VecDeque.Iter.{deque_iter_rest}
use Rattle.std.proofs.lemmas.Int.{to_z-of_z}
use Rattle.series_slots.specs.Slots.{Slots}
use Rattle.series_slots.specs.SlotPlaces.{SlotList}
use Rattle.series_slots.specs.Firsts.{IsFirstFrom}
use Rattle.series_slots.proofs.SlotLemmas.{Slot}
use Rattle.series_slots.proofs.FirstLemmas.{IsLeft, left_at_first, one_bare, one_valued}
use Rattle.series_slots.proofs.series_buffer.SeriesBuffer.first_from.Goals as goal

pub loop-t-init : goal.loop-t-init
loop-t-init c =
    let slots : SlotList = c.self.inside.slots.items in
    let position = c.place_from-position.result in
    let rest : deque_iter_rest c.into_iter-t-iterator.result ≡ slice_range slots position (length slots) = ap deque_iter_rest c.into_iter-t-iterator.ensures.into_iter_gives ∙ c.range-t-items.ensures.rest ∙ ap (slice_range slots position) c.self.inside.slots.ok.0 in
    subst (λ (s : Slots). IsLeft c.args.low s (deque_iter_rest c.into_iter-t-iterator.result)) c.self.view_is
    (subst (IsLeft c.args.low (from_sorted {R = nat_cmp} slots)) (sym rest) (left_at_first c.args.low slots position c.self.invariant c.place_from-position.ensures))

pub returns-in-Some-slot-clause-some : goal.returns-in-Some-slot-clause-some
returns-in-Some-slot-clause-some c =
    let x : Slot = c.in-Some.field-0.now in
    let steps : deque_iter_rest c.loop-t.t-iterator ≡ x ∷ deque_iter_rest c.next.new.self = search rules in
    let is : x.1 ≡ Some c.in-Some-slot.value = search rules in
    let fits : FitsSigned w64 c.in-Some-slot.value = search rules in
    subst (λ (z : ℤ). IsFirstFrom c.args.self.now c.args.low x.0 z) (sym (to_z-of_z w64 c.in-Some-slot.value fits))
    (one_valued c.args.low c.args.self.now x c.in-Some-slot.value (deque_iter_rest c.next.new.self) (subst (IsLeft c.args.low c.args.self.now) steps c.loop-t.invariant) is)

pub loop-t-preserved : goal.loop-t-preserved
loop-t-preserved c =
    let x : Slot = c.in-Some.field-0.now in
    let steps : deque_iter_rest c.loop-t.t-iterator ≡ x ∷ deque_iter_rest c.next.new.self = search rules in
    let bare : x.1 ≡ None = search rules in
    one_bare c.args.low c.args.self.now x (deque_iter_rest c.next.new.self) (subst (IsLeft c.args.low c.args.self.now) steps c.loop-t.invariant) bare
