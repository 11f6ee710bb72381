use Rattle.std.proofs.Common.{◌≡◌, true, ap, subst, ◌∙◌}
use Rattle.m3_model.specs.declared.point.Key.{Key}
use Rattle.block_buffer.specs.Held.{InMemory, has_expired}
use Rattle.held_points.specs.Counted.{TakesOne}
use Rattle.held_points.proofs.ForgetLemmas.{taken_indexed, takes_one}
use Rattle.held_points.proofs.held.HeldPoints.take_expired.Goals as goal

pub invariant_of-self : goal.invariant_of-self
invariant_of-self c =
    taken_indexed c.self.inside.buffer c.take_expired.new.self c.self.inside.newly (λ (k : Key). has_expired c.args.rules.now k ≡ true) c.in-Some.taken c.self.inside.index c.forget.new.index
    (ap (λ (h : InMemory). h.room) c.self.view_is ∙ c.requires) c.take_expired.ensures.room c.self.invariant c.in-Some.ensures.taken c.forget.ensures

pub returns-in-Some-clause-taken : goal.returns-in-Some-clause-taken
returns-in-Some-clause-taken c e =
    subst (λ (h : InMemory). TakesOne h c.take_expired.new.self (λ (k : Key). has_expired c.args.rules.now k ≡ true)) c.self.view_is
    (takes_one c.self.inside.buffer c.take_expired.new.self (λ (k : Key). has_expired c.args.rules.now k ≡ true) c.in-Some.taken c.take_expired.ensures.room c.in-Some.ensures.taken)
