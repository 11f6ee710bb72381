use Rattle.std.proofs.Common.{sym, ◌∙◌}
use Rattle.held_points.proofs.CountLemmas.{some_counted, counted_fewer, some_of}
use Rattle.held_points.proofs.counted.CountedBuffer.take_settled.Goals as goal

pub overflow_sub-self : goal.overflow_sub-self
overflow_sub-self c =
    let found = some_of c.in_ok-found.found _ (sym c.is_some.ensures ∙ c.if-is_some.true) c.in_ok-found.ensures.taken in
    some_counted c.self.inside.count c.self.inside.adds c.self.inside.buffer found.1.key found.0.v found.1.stands c.self.invariant

pub invariant_of-self-then-is_some : goal.invariant_of-self-then-is_some
invariant_of-self-then-is_some c =
    let found = some_of c.in_ok-found.found _ (sym c.is_some.ensures ∙ c.if-is_some.true) c.in_ok-found.ensures.taken in
    counted_fewer c.self.inside.count c.self.inside.adds c.self.inside.buffer c.take_settled.new.self found.1.key found.0.v found.1.stands found.1.left c.in_ok-found.ensures.room c.self.invariant
