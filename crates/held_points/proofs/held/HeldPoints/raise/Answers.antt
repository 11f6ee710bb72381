use Rattle.std.proofs.Common.{◌≡◌, ap, sym, subst, ◌∙◌}
use Rattle.std.specs.Prelude.{IsSome, None}
use Rattle.std.specs.FinMap as finite
use Rattle.block_buffer.specs.Held.{InMemory}
use Rattle.series_slots.specs.SeriesKeys.{key_at}
use Rattle.held_points.specs.Indexed.{IsIndexedFor, IsIndexed}
use Rattle.held_points.proofs.IndexLemmas.{raised_there}
use Rattle.held_points.proofs.held.HeldPoints.raise.Goals as goal

pub raise-requires : goal.raise-requires
raise-requires c = subst (λ (h : InMemory). IsSome (finite.get h.points (key_at c.args.series.now c.args.t))) (sym c.self.view_is) c.requires.stands

pub invariant_of-self : goal.invariant_of-self
invariant_of-self c =
    let inside = c.self.inside in
    let none = ap (λ (h : InMemory). h.room) c.self.view_is ∙ c.requires.room in
    subst (λ (h : InMemory). IsIndexedFor h.room inside.newly h.points inside.index) (sym c.raise.ensures)
    (raised_there inside.buffer.room inside.newly inside.buffer.points (key_at c.args.series.now c.args.t) _ inside.index none
    (subst (λ (h : InMemory). IsSome (finite.get h.points (key_at c.args.series.now c.args.t))) (sym c.self.view_is) c.requires.stands) c.self.invariant)
