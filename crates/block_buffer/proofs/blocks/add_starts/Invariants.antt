use Rattle.std.proofs.Common.{◌≡◌, ℕ, ◌-◌, ◌^◌, ◌<◌, ◌⊎◌, true}
use Rattle.std.specs.BTreeSet.{contains}
use Rattle.block_buffer.specs.Blocks.{block_cmp, HasStartsAt, IsStartOf}
use Rattle.block_buffer.specs.Spots.{group_of}
use Rattle.block_buffer.proofs.blocks.add_starts.Given as goal

abbrev pub invariant-loop-group : goal.invariant-loop-group
invariant-loop-group l = record {
  kept : (q : ℕ × ℕ) → contains block_cmp l.initial.starts q ≡ true → contains block_cmp l.starts q ≡ true;
  held : (q : ℕ × ℕ) → contains block_cmp l.starts q ≡ true → (contains block_cmp l.initial.starts q ≡ true) ⊎ IsStartOf l.all l.ns l.size l.last q;
  done : (p : ℕ) → group_of p < l.next → HasStartsAt l.all l.ns l.size l.last (contains block_cmp l.starts) p;
}

abbrev pub decreases-loop-group : goal.decreases-loop-group
decreases-loop-group l = 2 ^ 64 - l.next
