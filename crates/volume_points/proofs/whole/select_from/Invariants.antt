use Rattle.std.proofs.Common.{take}
use Rattle.volume_points.proofs.ChosenLemmas.{AreChosen}
use Rattle.volume_points.proofs.whole.select_from.Given as goal

-- of the series so far those that the pick asks for are cut
abbrev pub invariant-loop-series : goal.invariant-loop-series
invariant-loop-series l = AreChosen l.pick l.from l.to (take l.series-index l.rows) l.kept.items
