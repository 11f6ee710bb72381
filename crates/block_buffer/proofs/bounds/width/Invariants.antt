use Rattle.std.proofs.Common.{◌≡◌, ℕ, ◌*◌, ◌^◌, ◌<◌, ◌≤◌, get_or}
use Rattle.block_buffer.proofs.bounds.width.Given as goal

abbrev pub invariant-loop-node : goal.invariant-loop-node
invariant-loop-node l = record {
  level : ℕ;
  wide : l.width ≡ 2 ^ level;
  first : l.node * l.width ≡ l.leaf;
  some : 1 ≤ l.node;
  least : 1 ≤ l.width;
  up : l.node ≤ l.leaf;
  above : l.high < get_or l.nodes l.node 0;
}

abbrev pub decreases-loop-node : goal.decreases-loop-node
decreases-loop-node l = l.node
