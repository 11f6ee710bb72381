use Rattle.std.proofs.Common.{◌≡◌, ◌<◌, length, subst, rules}
use Rattle.series_slots.specs.Slots.{Slots}
use Rattle.series_slots.specs.SlotPlaces.{SlotList}
use Rattle.series_slots.specs.Firsts.{HasNoTime, IsFirstTime}
use Rattle.series_slots.proofs.FirstLemmas.{no_time, first_time_of}
use Rattle.series_slots.proofs.series_buffer.SeriesBuffer.first.Goals as goal

pub returns-in_err-t-clause-none : goal.returns-in_err-t-clause-none
returns-in_err-t-clause-none c e =
    let slots : SlotList = c.self.inside.slots.items in
    let none : length slots ≡ 0 = search rules in
    subst HasNoTime c.self.view_is (no_time slots c.self.invariant none)

pub returns-clause-some : goal.returns-clause-some
returns-clause-some c =
    let slots : SlotList = c.self.inside.slots.items in
    let some : 0 < length slots = search rules in
    subst (λ (s : Slots). IsFirstTime s c.in_ok-t.field-0.now.0) c.self.view_is (first_time_of slots c.in_ok-t.field-0.now c.self.invariant some c.in_ok-t.ensures.lookup)
