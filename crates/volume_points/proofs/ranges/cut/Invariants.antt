use Rattle.std.proofs.Common.{◌≡◌, ◌++◌}
use Rattle.std.specs.List.{filter_map}
use Rattle.std.specs.Vec.Iter.{into_iter_items}
use Rattle.volume_points.specs.Picked.{cut_series}
use Rattle.volume_points.proofs.ranges.cut.Given as goal

-- the series so far are cut
abbrev pub invariant-loop-series : goal.invariant-loop-series
invariant-loop-series l = record {
  all : l.yielded ++ into_iter_items l.series-iterator ≡ l.fn.found;
  cut : l.kept.items ≡ filter_map (cut_series l.from l.to) l.yielded;
}
