use Rattle.std.proofs.Common.{◌+◌, ◌≤◌, ℕ, length}
use Rattle.std.specs.Prelude.{vec_len}
use Rattle.std.specs.Vec.{vec_capacity}
use Rattle.node_joins.specs.Shards.{AreOpenedBelow}
use Rattle.node_joins.specs.Unowned.{CameUnowned}
use Rattle.node_joins.proofs.shards.open_all.Given as goal

abbrev pub invariant-loop-shard : goal.invariant-loop-shard
invariant-loop-shard g l = record {
  came : CameUnowned g.D.Disk.state l.fn.replicas l.replicas;
  opened : AreOpenedBelow g.D.Disk.state l.node l.asked l.place l.shard l.joined.items l.fn.replicas l.replicas;
  room : (n : ℕ) → n + l.shard ≤ length l.place.shards → vec_len l.joined + n ≤ vec_capacity l.joined;
}
