use Rattle.placement_core.specs.Lawful.{IsLawful}
use Rattle.placement_tests.proofs.lines.after_lines.Given as goal

abbrev pub invariant-loop-words : goal.invariant-loop-words
invariant-loop-words l = IsLawful l.place
