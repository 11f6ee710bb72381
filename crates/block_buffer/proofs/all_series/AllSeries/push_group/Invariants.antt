use Rattle.std.proofs.Common.{◌≡◌, ◌*◌, take}
use Rattle.std.specs.List.{flat_map}
use Rattle.series_slots.specs.Ranges.{series_in}
use Rattle.block_buffer.proofs.all_series.AllSeries.push_group.Given as goal

abbrev pub invariant-loop-position : goal.invariant-loop-position
invariant-loop-position l = l.initial.found.items ≡ flat_map (series_in l.ns l.from l.to) (take (l.group * 16) l.self) → l.found.items ≡ flat_map (series_in l.ns l.from l.to) (take l.position l.self)
