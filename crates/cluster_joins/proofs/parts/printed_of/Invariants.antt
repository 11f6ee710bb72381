use Rattle.std.proofs.Common.{◌≡◌, map}
use Rattle.cluster_joins.specs.Marks.{printed_pair}
use Rattle.cluster_joins.proofs.parts.printed_of.Given as goal

abbrev pub invariant-loop-one : goal.invariant-loop-one
invariant-loop-one l = l.printed.items ≡ map printed_pair l.yielded
