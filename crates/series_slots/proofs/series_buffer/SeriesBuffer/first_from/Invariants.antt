use Rattle.std.specs.VecDeque.Iter.{deque_iter_rest}
use Rattle.series_slots.proofs.FirstLemmas.{IsLeft}
use Rattle.series_slots.proofs.series_buffer.SeriesBuffer.first_from.Given as goal

abbrev pub invariant-loop-t : goal.invariant-loop-t
invariant-loop-t l = IsLeft l.low l.self (deque_iter_rest l.t-iterator)
