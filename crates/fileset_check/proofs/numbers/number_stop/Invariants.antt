use Rattle.std.proofs.Common.{drop}
use Rattle.fileset_check.proofs.NumberLemmas.{Carries}
use Rattle.fileset_check.proofs.numbers.number_stop.Given as goal

-- what is told of the fields that are left is told of all
abbrev pub invariant-loop-field : goal.invariant-loop-field
invariant-loop-field l = Carries l.fields (drop l.field-index l.fields) l.bytes l.at
