use Rattle.std.proofs.Common.{◌≡◌, None, ap, ap₂, ◌∙◌, refl, rules, w64}
use Rattle.std.specs.Prelude.{Option, ℤ, FitsSigned}
use Rattle.std.proofs.lemmas.Int.{to_z-of_z}
use Rattle.m3_model.specs.declared.point.Key.{Key}
use Rattle.m3_model.specs.Contents.{Contents, raised_at}
use Rattle.series_slots.specs.SeriesKeys.{key_at}
use Rattle.series_slots.specs.Points.{points_of}
use Rattle.series_slots.specs.SeriesEntries.{slots_of}
use Rattle.block_buffer.specs.Held.{InMemory}
use Rattle.block_buffer.specs.Room.{room_key}
use Rattle.series_slots.proofs.PointLemmas.{put_points, same_points, always_err}
use Rattle.block_buffer.proofs.ContentLemmas.{value_set, value_held, value_same, only_held, only_raised, only_same}
use Rattle.block_buffer.proofs.RoomLemmas.{none_stands, only_values, only_of}
use Rattle.block_buffer.proofs.buffer.Buffer.add.Goals as goal

abbrev held : Contents → Option Key → InMemory
held points room = record { points = points; room = room }

pub raise-requires : goal.raise-requires
raise-requires c = (c.args.series.now, c.in_ok-found.ensures.stands)

pub invariant_of-self : goal.invariant_of-self
invariant_of-self c =
    let none : room_key c.self.inside.sought c.self.inside.room ≡ None = ap (λ (h : InMemory). h.room) c.self.view_is ∙ c.requires in
    let only = only_of c.self.inside.sought c.self.inside.room c.self.inside.all none c.self.invariant.1 in (
      none_stands c.self.inside.sought c.self.inside.room c.self.inside.sought c.hold.new.self none,
      only_values c.self.inside.sought c.self.inside.sought c.self.inside.room c.hold.new.self none (only_same None c.self.inside.all c.hold.new.self only c.in_err-found.ensures.err),
    )

pub invariant_of-self-2 : goal.invariant_of-self-2
invariant_of-self-2 c =
    let none : room_key c.self.inside.sought c.self.inside.room ≡ None = ap (λ (h : InMemory). h.room) c.self.view_is ∙ c.requires in
    let only = only_of c.self.inside.sought c.self.inside.room c.self.inside.all none c.self.invariant.1 in
    let key : Key = key_at c.args.series.now c.args.t in (
      none_stands c.self.inside.sought c.self.inside.room c.self.inside.sought c.raise.new.self none,
      only_values c.self.inside.sought c.self.inside.sought c.self.inside.room c.raise.new.self none
          (only_raised c.hold.new.self c.raise.new.self key _ (only_held c.self.inside.all c.hold.new.self key _ only c.in_ok-found.ensures.ok) (c.raise.ensures.raised c.args.series.now c.in_ok-found.ensures.stands)),
    )

pub returns-in_err-found-clause-err : goal.returns-in_err-found-clause-err
returns-in_err-found-clause-err c =
    always_err c.from_residual.result (ap₂ held (same_points (slots_of c.hold.new.self) (slots_of c.self.inside.all) (value_same c.self.inside.all c.hold.new.self c.in_err-found.ensures.err)) refl ∙ c.self.view_is)

pub returns-clause-ok : goal.returns-clause-ok
returns-clause-ok c =
    let fits : FitsSigned w64 c.args.v = search rules in
    let key : Key = key_at c.args.series.now c.args.t in
    let was : points_of (slots_of c.hold.new.self) ≡ c.args.self.now.points =
    same_points (slots_of c.hold.new.self) (slots_of c.self.inside.all) (value_held c.self.inside.all c.hold.new.self key c.in_ok-found.ensures.ok) ∙ ap (λ (h : InMemory). h.points) c.self.view_is in
    ap₂ held (put_points (slots_of c.hold.new.self) (slots_of c.raise.new.self) key _ (value_set c.hold.new.self c.raise.new.self key _ (c.raise.ensures.raised c.args.series.now c.in_ok-found.ensures.stands))
    ∙ ap₂ (λ (m : Contents) (z : ℤ). raised_at m key z) was (to_z-of_z w64 c.args.v fits)) (ap (λ (h : InMemory). h.room) c.self.view_is ∙ c.requires)
