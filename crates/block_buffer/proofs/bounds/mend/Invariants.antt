use Rattle.std.proofs.Common.{◌-◌, ◌≡◌, ℕ, ◌*◌, ◌/◌, ◌<◌, ◌≤◌, length, get_or}
use Rattle.block_buffer.specs.Bounds.{IsTreeBut}
use Rattle.block_buffer.proofs.bounds.mend.Given as goal

abbrev pub invariant-loop-node : goal.invariant-loop-node
invariant-loop-node l = record {
  inside : l.node < 2 * (length l.nodes / 2);
  len : length l.nodes ≡ length l.initial.nodes;
  tree : IsTreeBut (l.node / 2) l.nodes;
  kept : (j d : ℕ) → length l.initial.nodes / 2 ≤ j → get_or l.nodes j d ≡ get_or l.initial.nodes j d;
}

abbrev pub decreases-loop-node : goal.decreases-loop-node
decreases-loop-node l = l.node - 1
