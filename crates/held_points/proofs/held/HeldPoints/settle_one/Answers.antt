use Rattle.std.proofs.Common.{◌≡◌, ap, subst, ◌∙◌}
use Rattle.std.specs.Prelude.{Option, IfSome}
use Rattle.m3_model.specs.declared.point.Key.{Key}
use Rattle.block_buffer.specs.Held.{InMemory}
use Rattle.block_buffer.specs.Taken.{IsTaken}
use Rattle.block_buffer.specs.declared.taken.Taken.{Taken}
use Rattle.held_points.proofs.ForgetLemmas.{taken_indexed}
use Rattle.held_points.proofs.held.HeldPoints.settle_one.Goals as goal

pub invariant_of-self-in-Some : goal.invariant_of-self-in-Some
invariant_of-self-in-Some c =
    let P : Key → Type 0 = λ k. k ≡ record { ns = c.args.ns; id = c.args.id.now; t = c.args.t } in
    let taken : IsTaken c.self.inside.buffer.points c.take_settled.new.self.points P c.in-Some.taken =
    subst (λ (o : Option Taken). IfSome o (IsTaken c.self.inside.buffer.points c.take_settled.new.self.points P)) c.in-Some.is c.in_ok-taken.ensures.taken in
    taken_indexed c.self.inside.buffer c.take_settled.new.self c.self.inside.newly P c.in-Some.taken c.self.inside.index c.forget.new.index (ap (λ (h : InMemory). h.room) c.self.view_is ∙ c.requires) c.take_settled.ensures.room
    c.self.invariant taken c.forget.ensures
