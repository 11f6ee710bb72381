use Rattle.std.proofs.Common.{◌≡◌, ℤ, None, refl, ap, subst, ◌∙◌, rules, w64}
use Rattle.std.specs.Prelude.{IfSome, FitsSigned}
use Rattle.std.proofs.lemmas.Int.{to_z-of_z}
use Rattle.m3_model.specs.declared.point.Key.{Key}
use Rattle.m3_model.specs.Contents.{Contents}
use Rattle.series_slots.specs.declared.series_key.SeriesKey.{SeriesKey}
use Rattle.series_slots.specs.Points.{points_of}
use Rattle.series_slots.specs.SeriesEntries.{SeriesEntries, slots_of}
use Rattle.block_buffer.specs.Held.{InMemory}
use Rattle.block_buffer.specs.Room.{room_key}
use Rattle.block_buffer.specs.Taken.{IsTaken, settled_at}
use Rattle.block_buffer.proofs.RoomLemmas.{only_of}
use Rattle.block_buffer.proofs.TakenLemmas.{settled_all, settled_one, settled_absent}
use Rattle.block_buffer.proofs.buffer.Buffer.take_settled.Goals as goal

pub returns-in-Some-clause-settled : goal.returns-in-Some-clause-settled
returns-in-Some-clause-settled c =
    let old : SeriesEntries = c.self.inside.all in
    let new : SeriesEntries = c.take_settled.new.self in
    let was : points_of (slots_of old) ≡ c.args.self.now.points = ap (λ (h : InMemory). h.points) (c.self.view_is ∙ c.release.ensures) in
    let none : room_key c.self.inside.sought c.self.inside.room ≡ None = ap (λ (h : InMemory). h.room) (c.self.view_is ∙ c.release.ensures) in
    let only = only_of c.self.inside.sought c.self.inside.room old none c.self.invariant.1 in
    let fits : FitsSigned w64 c.args.v = search rules in
    let s : SeriesKey = c.set.new.self in
    subst (λ (m : Contents). points_of (slots_of new) ≡ settled_at m (record { ns = c.args.ns; id = c.args.id.now; t = c.args.t; v = c.args.v })) was
    (subst (λ (q : SeriesKey). points_of (slots_of new) ≡ settled_at (points_of (slots_of old)) (record { ns = q.ns; id = q.id; t = c.args.t; v = c.args.v })) c.in_ok-set.ensures
    (subst (λ (z : ℤ). points_of (slots_of new) ≡ settled_at (points_of (slots_of old)) (record { ns = s.ns; id = s.id; t = c.args.t; v = z })) (to_z-of_z w64 c.args.v fits)
    (settled_all old new c.in-Some.position c.args.t _ s c.take_settled.result c.in-Some.ensures.there only c.take_settled.ensures.same c.take_settled.ensures.none c.take_settled.ensures.taken)))

pub returns-in-Some-clause-taken : goal.returns-in-Some-clause-taken
returns-in-Some-clause-taken c =
    let old : SeriesEntries = c.self.inside.all in
    let new : SeriesEntries = c.take_settled.new.self in
    let was : points_of (slots_of old) ≡ c.args.self.now.points = ap (λ (h : InMemory). h.points) (c.self.view_is ∙ c.release.ensures) in
    let none : room_key c.self.inside.sought c.self.inside.room ≡ None = ap (λ (h : InMemory). h.room) (c.self.view_is ∙ c.release.ensures) in
    let only = only_of c.self.inside.sought c.self.inside.room old none c.self.invariant.1 in
    let s : SeriesKey = c.set.new.self in
    subst (λ (m : Contents). IfSome c.take_settled.result (IsTaken m (points_of (slots_of new)) (λ (k : Key). k ≡ record { ns = c.args.ns; id = c.args.id.now; t = c.args.t }))) was
    (subst (λ (q : SeriesKey). IfSome c.take_settled.result (IsTaken (points_of (slots_of old)) (points_of (slots_of new)) (λ (k : Key). k ≡ record { ns = q.ns; id = q.id; t = c.args.t }))) c.in_ok-set.ensures
    (settled_one old new c.in-Some.position c.args.t _ s c.take_settled.result c.in-Some.ensures.there only c.take_settled.ensures.taken))

pub returns-in-None-clause-settled : goal.returns-in-None-clause-settled
returns-in-None-clause-settled c =
    let old : SeriesEntries = c.self.inside.all in
    let was : points_of (slots_of old) ≡ c.args.self.now.points = ap (λ (h : InMemory). h.points) (c.self.view_is ∙ c.release.ensures) in
    let s : SeriesKey = c.set.new.self in
    subst (λ (m : Contents). points_of (slots_of old) ≡ settled_at m (record { ns = c.args.ns; id = c.args.id.now; t = c.args.t; v = c.args.v })) was
    (subst (λ (q : SeriesKey). points_of (slots_of old) ≡ settled_at (points_of (slots_of old)) (record { ns = q.ns; id = q.id; t = c.args.t; v = c.args.v })) c.in_ok-set.ensures
    (settled_absent old c.args.t c.args.v s (c.in-None.ensures.absent refl)))
