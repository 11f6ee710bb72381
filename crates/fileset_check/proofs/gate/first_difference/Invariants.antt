use Rattle.std.proofs.Common.{◌≡◌, take}
use Rattle.fileset_check.proofs.gate.first_difference.Given as goal

-- so far both have the same bytes
abbrev pub invariant-loop-i : goal.invariant-loop-i
invariant-loop-i l = take l.i l.bytes ≡ take l.i l.due
