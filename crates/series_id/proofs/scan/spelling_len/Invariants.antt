use Rattle.std.proofs.Common.{length, ◌-◌}
use Rattle.series_id.proofs.Spellings.{IsSpelled}
use Rattle.series_id.proofs.scan.spelling_len.Given as goal

abbrev pub invariant-loop-n : goal.invariant-loop-n
invariant-loop-n l = IsSpelled l.text l.n

abbrev pub decreases-loop-n : goal.decreases-loop-n
decreases-loop-n l = length l.text - l.n
