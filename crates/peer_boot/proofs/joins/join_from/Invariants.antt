use Rattle.std.proofs.Common.{◌+◌, ◌<◌, ◌≤◌, ℕ, drop, length}
use Rattle.m3_model.specs.Levels.{majority}
use Rattle.session_net.specs.Tallies.{HasRoom}
use Rattle.peer_boot.specs.Asks.{AskedSoFar}
use Rattle.peer_boot.proofs.joins.join_from.Given as goal

abbrev pub invariant-loop-peer : goal.invariant-loop-peer
invariant-loop-peer g l = record {
  so_far : AskedSoFar g.D.Disk.state l.place l.to.shard l.to.node l.tenure (drop l.peer-index l.peers) l.tally l.fn.replicas l.replicas;
  fewer : length l.tally.answered.items < majority (l.place).rf;
  room : (n : ℕ) → n + l.peer-index ≤ length l.peers → HasRoom n l.tally;
}
