use Rattle.std.proofs.Common.{◌≡◌, take}
use Rattle.std.specs.Prelude.{None}
use Rattle.node_joins.specs.Shards.{assignment_in}
use Rattle.node_joins.proofs.shards.assignment_in.Given as goal

abbrev pub invariant-loop-assignment : goal.invariant-loop-assignment
invariant-loop-assignment l = assignment_in l.node (take l.assignment-index l.shard) ≡ None
