use Rattle.std.proofs.Common.{◌≡◌, take}
use Rattle.std.specs.Prelude.{filter}
use Rattle.volume_points.specs.Picked.{is_between}
use Rattle.volume_points.proofs.whole.copy_pairs.Given as goal

abbrev pub invariant-loop-pair : goal.invariant-loop-pair
invariant-loop-pair l = l.pairs.items ≡ filter (is_between l.from l.to) (take l.pair-index l.points)
