use Rattle.std.proofs.Common.{◌≡◌, ℤ, None, refl, ap, subst, ◌∙◌, rules, w64}
use Rattle.std.specs.Prelude.{IfSome, FitsSigned}
use Rattle.std.proofs.lemmas.Int.{to_z-of_z}
use Rattle.m3_model.specs.declared.point.Key.{Key}
use Rattle.m3_model.specs.Contents.{Contents}
use Rattle.series_slots.specs.SeriesKeys.{key_at}
use Rattle.series_slots.specs.Points.{points_of}
use Rattle.series_slots.specs.SeriesEntries.{SeriesEntries, slots_of}
use Rattle.block_buffer.specs.Held.{InMemory}
use Rattle.block_buffer.specs.Room.{room_key}
use Rattle.block_buffer.specs.Taken.{IsTaken, settled_at}
use Rattle.block_buffer.proofs.RoomLemmas.{only_of}
use Rattle.block_buffer.proofs.TakenLemmas.{settled_all, settled_one, settled_absent}
use Rattle.block_buffer.proofs.buffer.Buffer.settle_at.Goals as goal

pub returns-in_err-position-clause-settled : goal.returns-in_err-position-clause-settled
returns-in_err-position-clause-settled c =
    let old : SeriesEntries = c.self.inside.all in
    let s = c.args.series.now in
    ap (λ (h : InMemory). h.points) c.release.ensures
    ∙ subst (λ (m : Contents). m ≡ settled_at m (record { ns = s.ns; id = s.id; t = c.args.t; v = c.args.v })) (ap (λ (h : InMemory). h.points) (c.self.view_is ∙ c.release.ensures)) (settled_absent old c.args.t c.args.v s (c.in_err-position.ensures.absent refl))

pub returns-clause-settled : goal.returns-clause-settled
returns-clause-settled c =
    let old : SeriesEntries = c.self.inside.all in
    let new : SeriesEntries = c.take_settled.new.self in
    let was : points_of (slots_of old) ≡ c.args.self.now.points = ap (λ (h : InMemory). h.points) (c.self.view_is ∙ c.release.ensures) in
    let none : room_key c.self.inside.sought c.self.inside.room ≡ None = ap (λ (h : InMemory). h.room) (c.self.view_is ∙ c.release.ensures) in
    let only = only_of c.self.inside.sought c.self.inside.room old none c.self.invariant.1 in
    let fits : FitsSigned w64 c.args.v = search rules in
    let s = c.args.series.now in
    subst (λ (m : Contents). points_of (slots_of new) ≡ settled_at m (record { ns = s.ns; id = s.id; t = c.args.t; v = c.args.v })) was
    (subst (λ (z : ℤ). points_of (slots_of new) ≡ settled_at (points_of (slots_of old)) (record { ns = s.ns; id = s.id; t = c.args.t; v = z })) (to_z-of_z w64 c.args.v fits)
    (settled_all old new c.in_ok-position.position c.args.t _ s c.take_settled.result c.in_ok-position.ensures.there only c.take_settled.ensures.same c.take_settled.ensures.none c.take_settled.ensures.taken))

pub returns-clause-taken : goal.returns-clause-taken
returns-clause-taken c =
    let old : SeriesEntries = c.self.inside.all in
    let new : SeriesEntries = c.take_settled.new.self in
    let was : points_of (slots_of old) ≡ c.args.self.now.points = ap (λ (h : InMemory). h.points) (c.self.view_is ∙ c.release.ensures) in
    let none : room_key c.self.inside.sought c.self.inside.room ≡ None = ap (λ (h : InMemory). h.room) (c.self.view_is ∙ c.release.ensures) in
    let only = only_of c.self.inside.sought c.self.inside.room old none c.self.invariant.1 in
    let s = c.args.series.now in
    subst (λ (m : Contents). IfSome c.take_settled.result (IsTaken m (points_of (slots_of new)) (λ (k : Key). k ≡ key_at s c.args.t))) was
    (settled_one old new c.in_ok-position.position c.args.t _ s c.take_settled.result c.in_ok-position.ensures.there only c.take_settled.ensures.taken)
