use Rattle.std.proofs.Common.{◌≡◌, ap, ap₂, sym, ◌∙◌, Some, None}
use Rattle.std.specs.Prelude.{Option, is_some}
use Rattle.std.specs.FinMap as finite
use Rattle.m3_model.specs.declared.point.Key.{Key}
use Rattle.m3_model.specs.Contents.{Contents}
use Rattle.series_slots.specs.declared.series_key.SeriesKey.{SeriesKey}
use Rattle.series_slots.specs.SeriesKeys.{key_at}
use Rattle.series_slots.specs.Points.{points_of}
use Rattle.series_slots.specs.SeriesEntries.{slots_of}
use Rattle.block_buffer.specs.Room.{room_key}
use Rattle.block_buffer.specs.Held.{InMemory}
use Rattle.series_slots.proofs.PointLemmas.{same_points, always_err, get-points}
use Rattle.block_buffer.proofs.ContentLemmas.{value_held, value_same, only_held}
use Rattle.block_buffer.proofs.RoomLemmas.{no_room, only_of, valued_slot}
use Rattle.block_buffer.proofs.buffer.Buffer.room.Goals as goal

abbrev held : Contents → Option Key → InMemory
held points room = record { points = points; room = room }

pub invariant_of-self-2 : goal.invariant_of-self-2
invariant_of-self-2 c =
    let none : room_key c.self.inside.sought c.self.inside.room ≡ None = ap (λ (h : InMemory). h.room) (c.self.view_is ∙ c.release.ensures) in
    let only = only_of c.self.inside.sought c.self.inside.room c.self.inside.all none c.self.invariant.1 in
    (c.in_ok-found.ensures.stands, only_held c.self.inside.all c.hold.new.self (key_at c.set.new.self c.args.p.now.t) _ only c.in_ok-found.ensures.ok)

pub returns-in_err-set-clause-err : goal.returns-in_err-set-clause-err
returns-in_err-set-clause-err c =
    let was : held (points_of (slots_of c.self.inside.all)) (room_key c.self.inside.sought c.self.inside.room) ≡ held c.args.self.now.points None = c.self.view_is ∙ c.release.ensures in
    always_err c.from_residual.result (ap₂ held (ap (λ (h : InMemory). h.points) was) (no_room c.self.inside.sought _ c.self.inside.room (ap (λ (h : InMemory). h.room) was)))

pub returns-in_err-found-clause-err : goal.returns-in_err-found-clause-err
returns-in_err-found-clause-err c =
    let was : held (points_of (slots_of c.self.inside.all)) (room_key c.self.inside.sought c.self.inside.room) ≡ held c.args.self.now.points None = c.self.view_is ∙ c.release.ensures in
    always_err c.from_residual-in_err-found.result
    (ap₂ held (same_points _ _ (value_same c.self.inside.all c.hold.new.self c.in_err-found.ensures.err) ∙ ap (λ (h : InMemory). h.points) was) (no_room c.self.inside.sought _ c.self.inside.room (ap (λ (h : InMemory). h.room) was)))

pub returns-clause-ok : goal.returns-clause-ok
returns-clause-ok c =
    let was : held (points_of (slots_of c.self.inside.all)) (room_key c.self.inside.sought c.self.inside.room) ≡ held c.args.self.now.points None = c.self.view_is ∙ c.release.ensures in
    let key : Key = key_at c.set.new.self c.args.p.now.t in
    ap₂ held (same_points _ _ (value_held c.self.inside.all c.hold.new.self key c.in_ok-found.ensures.ok) ∙ ap (λ (h : InMemory). h.points) was) (ap (λ (s : SeriesKey). Some (key_at s c.args.p.now.t)) c.in_ok-set.ensures)

pub returns-clause-stands : goal.returns-clause-stands
returns-clause-stands c =
    let was : held (points_of (slots_of c.self.inside.all)) (room_key c.self.inside.sought c.self.inside.room) ≡ held c.args.self.now.points None = c.self.view_is ∙ c.release.ensures in
    let key : Key = key_at c.set.new.self c.args.p.now.t in
    c.in_ok-found.ensures.valued
    ∙ ap is_some (sym (get-points (slots_of c.self.inside.all) key) ∙ ap (λ (h : InMemory). finite.get h.points key) was
    ∙ ap (λ (s : SeriesKey). finite.get c.args.self.now.points (key_at s c.args.p.now.t)) c.in_ok-set.ensures)

pub returns-clause-known : goal.returns-clause-known
returns-clause-known c known =
    let was : held (points_of (slots_of c.self.inside.all)) (room_key c.self.inside.sought c.self.inside.room) ≡ held c.args.self.now.points None = c.self.view_is ∙ c.release.ensures in
    let only = only_of c.self.inside.sought c.self.inside.room c.self.inside.all (ap (λ (h : InMemory). h.room) was) c.self.invariant.1 in
    let slot = c.in_ok-found.ensures.known known in
    let key : Key = key_at c.set.new.self slot.0 in
    let value = valued_slot c.self.inside.all key only slot.1 in
    record {
      key = key;
      v = value.0;
      stands = ap (λ (h : InMemory). finite.get h.points key) (sym was) ∙ get-points (slots_of c.self.inside.all) key ∙ value.1;
      named = ap (λ (s : SeriesKey). s.id) c.in_ok-set.ensures;
    }
