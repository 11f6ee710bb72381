use Rattle.std.proofs.Common.{◌≡◌, ℤ, None, refl, ap, ap₂, sym, subst, ◌∙◌, rules, w64}
use Rattle.std.specs.Prelude.{Option, Some, IsSome, IfSome, FitsSigned}
use Rattle.std.proofs.lemmas.Int.{to_z-of_z}
use Rattle.std.specs.FinMap as finite
use Rattle.m3_model.specs.declared.point.Key.{Key}
use Rattle.m3_model.specs.Contents.{Contents, raised_at}
use Rattle.series_slots.specs.SeriesKeys.{key_at}
use Rattle.series_slots.specs.Points.{points_of}
use Rattle.series_slots.specs.SeriesEntries.{SeriesEntries, StandsAt, slots_of}
use Rattle.series_slots.proofs.PointLemmas.{put_points}
use Rattle.block_buffer.specs.Held.{InMemory}
use Rattle.block_buffer.specs.Room.{room_key}
use Rattle.block_buffer.proofs.ContentLemmas.{value_set, only_raised}
use Rattle.block_buffer.proofs.FirstOfLemmas.{no_slot, no_series, only_any}
use Rattle.block_buffer.proofs.RoomLemmas.{none_stands, only_values, only_of}
use Rattle.block_buffer.proofs.buffer.Buffer.raise.Goals as goal

abbrev held : Contents → Option Key → InMemory
held points room = record { points = points; room = room }

pub invariant_of-self : goal.invariant_of-self
invariant_of-self c =
    let old : SeriesEntries = c.self.inside.all in
    let new : SeriesEntries = c.raise.new.self in
    let s = c.args.series.now in
    let none : room_key c.self.inside.sought c.self.inside.room ≡ None = ap (λ (h : InMemory). h.room) (c.self.view_is ∙ c.release.ensures) in
    let only = only_any old (key_at s c.args.t) (only_of c.self.inside.sought c.self.inside.room old none c.self.invariant.1) in
    let stands = c.in-Some-slot.ensures.stands s c.in-Some.ensures.there in (
      none_stands c.self.inside.sought c.self.inside.room c.self.inside.sought new none,
      only_values c.self.inside.sought c.self.inside.sought c.self.inside.room new none (only_raised old new (key_at s c.args.t) _ only (c.raise.ensures.raised s stands)),
    )

pub returns-in-Some-slot : goal.returns-in-Some-slot
returns-in-Some-slot c =
    let old : SeriesEntries = c.self.inside.all in
    let new : SeriesEntries = c.raise.new.self in
    let s = c.args.series.now in
    let fits : FitsSigned w64 c.args.v = search rules in
    let was : points_of (slots_of old) ≡ c.args.self.now.points = ap (λ (h : InMemory). h.points) (c.self.view_is ∙ c.release.ensures) in
    let none : room_key c.self.inside.sought c.self.inside.room ≡ None = ap (λ (h : InMemory). h.room) (c.self.view_is ∙ c.release.ensures) in
    let stands = c.in-Some-slot.ensures.stands s c.in-Some.ensures.there in
    ap₂ held (put_points (slots_of old) (slots_of new) (key_at s c.args.t) _ (value_set old new (key_at s c.args.t) _ (c.raise.ensures.raised s stands))
    ∙ ap₂ (λ (m : Contents) (z : ℤ). raised_at m (key_at s c.args.t) z) was (to_z-of_z w64 c.args.v fits)) none

pub returns-in-None-slot : goal.returns-in-None-slot
returns-in-None-slot c =
    let old : SeriesEntries = c.self.inside.all in
    let s = c.args.series.now in
    let was : points_of (slots_of old) ≡ c.args.self.now.points = ap (λ (h : InMemory). h.points) (c.self.view_is ∙ c.release.ensures) in
    absurd (no_slot old (key_at s c.args.t) (sym (c.in-None-slot.ensures.slot s c.in-Some.ensures.there)) (subst (λ (m : Contents). IsSome (finite.get m (key_at s c.args.t))) (sym was) c.requires))

pub returns-in-None : goal.returns-in-None
returns-in-None c =
    let old : SeriesEntries = c.self.inside.all in
    let s = c.args.series.now in
    let was : points_of (slots_of old) ≡ c.args.self.now.points = ap (λ (h : InMemory). h.points) (c.self.view_is ∙ c.release.ensures) in
    absurd (no_series old s c.args.t (c.in-None.ensures.absent refl) (subst (λ (m : Contents). IsSome (finite.get m (key_at s c.args.t))) (sym was) c.requires))
