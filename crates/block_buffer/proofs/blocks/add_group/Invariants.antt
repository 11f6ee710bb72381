use Rattle.std.proofs.Common.{◌≡◌, ℕ, ◌<◌, ◌≤◌, ◌⊎◌, true}
use Rattle.std.specs.BTreeSet.{contains}
use Rattle.block_buffer.specs.Blocks.{block_cmp, HasStartsAt, IsStartOf}
use Rattle.block_buffer.proofs.blocks.add_group.Given as goal

abbrev pub invariant-loop-position : goal.invariant-loop-position
invariant-loop-position l = record {
  kept : (q : ℕ × ℕ) → contains block_cmp l.initial.starts q ≡ true → contains block_cmp l.starts q ≡ true;
  held : (q : ℕ × ℕ) → contains block_cmp l.starts q ≡ true → (contains block_cmp l.initial.starts q ≡ true) ⊎ IsStartOf l.all l.ns l.size l.last q;
  done : (p : ℕ) → l.first ≤ p → p < l.position → HasStartsAt l.all l.ns l.size l.last (contains block_cmp l.starts) p;
}
