use Rattle.std.proofs.Common.{◌↔◌, drop}
use Rattle.fileset_check.specs.Lawful.{AreTimes}
use Rattle.fileset_check.proofs.lawful.are_times.Given as goal

-- whether all times fit is a matter of those that are left
abbrev pub invariant-loop-pair : goal.invariant-loop-pair
invariant-loop-pair l = AreTimes l.least l.end (drop l.pair-index l.pairs) ↔ AreTimes l.start l.end l.pairs
