use Rattle.held_points.proofs.CountLemmas.{some_counted, counted_fewer}
use Rattle.held_points.proofs.counted.CountedBuffer.settle_at.Goals as goal

pub overflow_sub-self : goal.overflow_sub-self
overflow_sub-self c =
    let taken = c.in_ok-taken.ensures.taken in
    some_counted c.self.inside.count c.self.inside.adds c.self.inside.buffer taken.key c.in_ok-taken.taken.v taken.stands c.self.invariant

pub invariant_of-self-2 : goal.invariant_of-self-2
invariant_of-self-2 c =
    let taken = c.in_ok-taken.ensures.taken in
    counted_fewer c.self.inside.count c.self.inside.adds c.self.inside.buffer c.settle_at.new.self taken.key c.in_ok-taken.taken.v taken.stands taken.left c.in_ok-taken.ensures.room c.self.invariant
