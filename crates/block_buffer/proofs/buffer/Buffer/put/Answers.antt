use Rattle.std.proofs.Common.{◌≡◌, ap, ap₂, sym, subst, ◌∙◌, rules, w64}
use Rattle.std.specs.Prelude.{Option, ℤ, FitsSigned}
use Rattle.std.proofs.lemmas.Int.{to_z-of_z}
use Rattle.std.specs.FinMap as finite
use Rattle.m3_model.specs.declared.point.Key.{Key}
use Rattle.m3_model.specs.Contents.{Contents, raised_at, is_higher, key_of}
use Rattle.block_buffer.specs.declared.room.Room.{Room}
use Rattle.series_slots.specs.SeriesKeys.{key_at}
use Rattle.series_slots.specs.Points.{points_of}
use Rattle.series_slots.specs.SeriesEntries.{slots_of, StandsAt}
use Rattle.block_buffer.specs.Room.{room_key, RoomStands, OnlyRoomIsEmpty}
use Rattle.block_buffer.specs.Held.{InMemory}
use Rattle.series_slots.proofs.PointLemmas.{put_points, get-points, inside_some}
use Rattle.block_buffer.proofs.ContentLemmas.{value_set, only_raised}
use Rattle.block_buffer.proofs.buffer.Buffer.put.Goals as goal

abbrev held : Contents → Option Key → InMemory
held points room = record { points = points; room = room }

pub raise-requires : goal.raise-requires
raise-requires c = (c.self.inside.sought, subst (λ (r : Option Room). RoomStands r c.self.inside.sought c.self.inside.all) (sym c.in-Some.ensures.value) c.self.invariant.0)

pub invariant_of-self : goal.invariant_of-self
invariant_of-self c =
    let key : Key = key_at c.self.inside.sought c.in-Some.room.t in
    let stands : StandsAt c.self.inside.all c.in-Some.room.position c.in-Some.room.t c.self.inside.sought =
    subst (λ (r : Option Room). RoomStands r c.self.inside.sought c.self.inside.all) (sym c.in-Some.ensures.value) c.self.invariant.0 in
    let only = subst (λ (r : Option Room). OnlyRoomIsEmpty (room_key c.self.inside.sought r) c.self.inside.all) (sym c.in-Some.ensures.value) c.self.invariant.1 in (
      subst (λ (r : Option Room). RoomStands r c.self.inside.sought c.raise.new.self) (sym c.take.ensures.after) tt,
      subst (λ (r : Option Room). OnlyRoomIsEmpty (room_key c.self.inside.sought r) c.raise.new.self) (sym c.take.ensures.after)
          (only_raised c.self.inside.all c.raise.new.self key _ only (c.raise.ensures.raised c.self.inside.sought stands)),
    )

pub returns-in-Some-clause-joined : goal.returns-in-Some-clause-joined
returns-in-Some-clause-joined c =
    let fits : FitsSigned w64 c.args.p.now.v = search rules in
    let key : Key = key_at c.self.inside.sought c.in-Some.room.t in
    let same : key ≡ key_of c.args.p.now = inside_some _ _ (ap (room_key c.self.inside.sought) c.in-Some.ensures.value ∙ ap (λ (h : InMemory). h.room) c.self.view_is ∙ c.requires) in
    let stands : StandsAt c.self.inside.all c.in-Some.room.position c.in-Some.room.t c.self.inside.sought =
    subst (λ (r : Option Room). RoomStands r c.self.inside.sought c.self.inside.all) (sym c.in-Some.ensures.value) c.self.invariant.0 in
    rw (← c.self.view_is) (ap₂ held (put_points (slots_of c.self.inside.all) (slots_of c.raise.new.self) key _ (value_set c.self.inside.all c.raise.new.self key _ (c.raise.ensures.raised c.self.inside.sought stands))
    ∙ ap₂ (λ (k : Key) (z : ℤ). raised_at (points_of (slots_of c.self.inside.all)) k z) same (to_z-of_z w64 c.args.p.now.v fits)) (ap (room_key c.self.inside.sought) c.take.ensures.after))

pub returns-in-Some-clause-changed : goal.returns-in-Some-clause-changed
returns-in-Some-clause-changed c =
    let fits : FitsSigned w64 c.args.p.now.v = search rules in
    let key : Key = key_at c.self.inside.sought c.in-Some.room.t in
    let same : key ≡ key_of c.args.p.now = inside_some _ _ (ap (room_key c.self.inside.sought) c.in-Some.ensures.value ∙ ap (λ (h : InMemory). h.room) c.self.view_is ∙ c.requires) in
    let stands : StandsAt c.self.inside.all c.in-Some.room.position c.in-Some.room.t c.self.inside.sought =
    subst (λ (r : Option Room). RoomStands r c.self.inside.sought c.self.inside.all) (sym c.in-Some.ensures.value) c.self.invariant.0 in
    rw (← c.self.view_is) (c.raise.ensures.changed c.self.inside.sought stands
    ∙ ap₂ is_higher (sym (get-points (slots_of c.self.inside.all) key) ∙ ap (λ (k : Key). finite.get (points_of (slots_of c.self.inside.all)) k) same) (to_z-of_z w64 c.args.p.now.v fits))
