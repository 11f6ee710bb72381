use Rattle.std.proofs.Common.{◌≡◌, take}
use Rattle.cluster_joins.specs.Marks.{done_of}
use Rattle.cluster_joins.proofs.parts.done_of.Given as goal

abbrev pub invariant-loop-one : goal.invariant-loop-one
invariant-loop-one l = l.done.items ≡ done_of l.node (take l.one-index l.joined)
