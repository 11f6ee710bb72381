use Rattle.std.proofs.Common.{◌≡◌, None, refl, ap, sym, subst, ◌∙◌}
use Rattle.m3_model.specs.declared.point.Key.{Key}
use Rattle.m3_model.specs.Contents.{Contents}
use Rattle.series_slots.specs.SeriesKeys.{key_at}
use Rattle.series_slots.specs.Points.{points_of}
use Rattle.series_slots.specs.SeriesEntries.{SeriesEntries, slots_of}
use Rattle.block_buffer.specs.Held.{InMemory}
use Rattle.block_buffer.specs.Room.{room_key, RoomStands, OnlyRoomIsEmpty}
use Rattle.block_buffer.specs.Spots.{IsKeyWithin}
use Rattle.block_buffer.specs.Taken.{HasNone}
use Rattle.block_buffer.proofs.ContentLemmas.{only_taken}
use Rattle.block_buffer.proofs.RoomLemmas.{none_stands, only_values, only_of}
use Rattle.block_buffer.proofs.TakenLemmas.{none_stands_of, taken_at, taken_from}
use Rattle.block_buffer.proofs.buffer.Buffer.take_within.Goals as goal

pub take_spot-requires : goal.take_spot-requires
take_spot-requires c = let spot = c.in_ok-spot.ensures.some in (spot.series, spot.stands, spot.value)

pub invariant_of-self : goal.invariant_of-self
invariant_of-self c = (
  subst (RoomStands c.self.inside.room c.self.inside.sought) (sym c.in_err-spot.ensures.same) c.self.invariant.0,
  subst (OnlyRoomIsEmpty (room_key c.self.inside.sought c.self.inside.room)) (sym c.in_err-spot.ensures.same) c.self.invariant.1,
)

pub invariant_of-self-2 : goal.invariant_of-self-2
invariant_of-self-2 c =
    let none : room_key c.self.inside.sought c.self.inside.room ≡ None = ap (λ (h : InMemory). h.room) (c.self.view_is ∙ c.release.ensures) in
    let only = subst (OnlyRoomIsEmpty None) (sym c.in_ok-spot.ensures.same) (only_of c.self.inside.sought c.self.inside.room c.self.inside.all none c.self.invariant.1) in
    let spot = c.in_ok-spot.ensures.some in
    let taken = c.take_spot.ensures spot.series spot.stands in (
      none_stands c.self.inside.sought c.self.inside.room c.self.inside.sought c.take_spot.new.self none,
      only_values c.self.inside.sought c.self.inside.sought c.self.inside.room c.take_spot.new.self none
          (only_taken c.any_within.new.self c.take_spot.new.self (key_at spot.series c.in_ok-spot.spot.t) only taken.set),
    )

pub returns-in_err-spot-clause-none : goal.returns-in_err-spot-clause-none
returns-in_err-spot-clause-none c e =
    let was : points_of (slots_of c.any_within.new.self) ≡ c.args.self.now.points = ap (λ (es : SeriesEntries). points_of (slots_of es)) c.in_err-spot.ensures.same ∙ ap (λ (h : InMemory). h.points) (c.self.view_is ∙ c.release.ensures) in
    let leaves : Key → Type 0 = IsKeyWithin c.args.ns c.args.low c.args.high in
    subst (λ (m : Contents). HasNone m leaves) was (none_stands_of c.any_within.new.self leaves (c.in_err-spot.ensures.none refl))

pub returns-clause-taken : goal.returns-clause-taken
returns-clause-taken c =
    let was : points_of (slots_of c.any_within.new.self) ≡ c.args.self.now.points = ap (λ (es : SeriesEntries). points_of (slots_of es)) c.in_ok-spot.ensures.same ∙ ap (λ (h : InMemory). h.points) (c.self.view_is ∙ c.release.ensures) in
    let none : room_key c.self.inside.sought c.self.inside.room ≡ None = ap (λ (h : InMemory). h.room) (c.self.view_is ∙ c.release.ensures) in
    let only = subst (OnlyRoomIsEmpty None) (sym c.in_ok-spot.ensures.same) (only_of c.self.inside.sought c.self.inside.room c.self.inside.all none c.self.invariant.1) in
    let leaves : Key → Type 0 = IsKeyWithin c.args.ns c.args.low c.args.high in
    let spot = c.in_ok-spot.ensures.some in
    let taken = c.take_spot.ensures spot.series spot.stands in
    taken_from (points_of (slots_of c.any_within.new.self)) c.args.self.now.points (points_of (slots_of c.take_spot.new.self)) leaves _ was
    (taken_at c.any_within.new.self c.take_spot.new.self leaves c.in_ok-spot.spot.position c.in_ok-spot.spot.t spot.series _ spot.holds
    (only_taken c.any_within.new.self c.take_spot.new.self (key_at spot.series c.in_ok-spot.spot.t) only taken.set) taken)
