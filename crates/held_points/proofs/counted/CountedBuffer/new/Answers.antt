use Rattle.held_points.proofs.CountLemmas.{none_counted}
use Rattle.held_points.proofs.counted.CountedBuffer.new.Goals as goal

pub invariant_of-result : goal.invariant_of-result
invariant_of-result c = none_counted c.new.result c.new.ensures
