use Rattle.std.proofs.Common.{◌≡◌, ◌++◌}
use Rattle.std.specs.List.{filter_map}
use Rattle.std.specs.VecDeque.Iter.{deque_iter_rest}
use Rattle.series_slots.specs.Slots.{valued, valued_in}
use Rattle.series_slots.proofs.series_buffer.pairs_between.Given as goal

abbrev pub invariant-loop-t : goal.invariant-loop-t
invariant-loop-t l = l.pairs.items ++ filter_map valued (deque_iter_rest l.t-iterator) ≡ filter_map (valued_in l.from l.to) l.slots.items
