use Rattle.std.proofs.Common.{◌≡◌, map, take}
use Rattle.cluster_joins.specs.Marks.{source_slot}
use Rattle.cluster_joins.proofs.parts.sources_of.Given as goal

abbrev pub invariant-loop-one : goal.invariant-loop-one
invariant-loop-one l = l.sources.items ≡ map source_slot (take l.one-index l.joined)
