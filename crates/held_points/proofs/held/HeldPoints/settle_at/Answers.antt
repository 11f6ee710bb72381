use Rattle.std.proofs.Common.{◌≡◌, ap, subst, ◌∙◌}
use Rattle.m3_model.specs.declared.point.Key.{Key}
use Rattle.block_buffer.specs.Held.{InMemory}
use Rattle.series_slots.specs.SeriesKeys.{key_at}
use Rattle.held_points.proofs.ForgetLemmas.{taken_indexed}
use Rattle.held_points.proofs.held.HeldPoints.settle_at.Goals as goal

pub invariant_of-self : goal.invariant_of-self
invariant_of-self c =
    let P : Key → Type 0 = λ k. k ≡ key_at c.args.series.now c.args.t in
    taken_indexed c.self.inside.buffer c.settle_at.new.self c.self.inside.newly P c.in-Some.taken c.self.inside.index c.forget.new.index (ap (λ (h : InMemory). h.room) c.self.view_is ∙ c.requires) c.settle_at.ensures.room
    c.self.invariant c.in-Some.ensures.taken c.forget.ensures
