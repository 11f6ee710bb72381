use Rattle.std.proofs.Common.{ap, subst, ◌∙◌}
use Rattle.block_buffer.specs.Held.{InMemory}
use Rattle.block_buffer.specs.Spots.{IsKeyWithin}
use Rattle.held_points.specs.Counted.{TakesOne}
use Rattle.held_points.proofs.ForgetLemmas.{taken_indexed, takes_one}
use Rattle.held_points.proofs.held.HeldPoints.take_within.Goals as goal

pub invariant_of-self : goal.invariant_of-self
invariant_of-self c =
    taken_indexed c.self.inside.buffer c.take_within.new.self c.self.inside.newly (IsKeyWithin c.args.ns c.args.low c.args.high) c.in-Some.taken c.self.inside.index c.forget.new.index
    (ap (λ (h : InMemory). h.room) c.self.view_is ∙ c.requires) c.take_within.ensures.room c.self.invariant c.in-Some.ensures.taken c.forget.ensures

pub returns-in-Some-clause-taken : goal.returns-in-Some-clause-taken
returns-in-Some-clause-taken c e =
    subst (λ (h : InMemory). TakesOne h c.take_within.new.self (IsKeyWithin c.args.ns c.args.low c.args.high)) c.self.view_is
    (takes_one c.self.inside.buffer c.take_within.new.self (IsKeyWithin c.args.ns c.args.low c.args.high) c.in-Some.taken c.take_within.ensures.room c.in-Some.ensures.taken)
