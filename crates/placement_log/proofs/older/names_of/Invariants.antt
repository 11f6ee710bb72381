use Rattle.std.proofs.Common.{◌≡◌, map, take}
use Rattle.commit_log.specs.Segment.{segment}
use Rattle.placement_log.proofs.older.names_of.Given as goal

abbrev pub invariant-loop-number : goal.invariant-loop-number
invariant-loop-number l = l.names.items ≡ map segment (take l.number-index l.numbers)
