use Rattle.std.proofs.Common.{◌≡◌, ◌*◌, ◌-◌, ◌^◌, take}
use Rattle.std.specs.List.{flat_map}
use Rattle.series_slots.specs.Ranges.{series_in}
use Rattle.block_buffer.proofs.all_series.AllSeries.range_of_space.Given as goal

abbrev pub invariant-loop-group : goal.invariant-loop-group
invariant-loop-group l = l.found.items ≡ flat_map (series_in l.ns l.from l.to) (take (l.next * 16) l.self)

abbrev pub decreases-loop-group : goal.decreases-loop-group
decreases-loop-group l = 2 ^ 64 - l.next
