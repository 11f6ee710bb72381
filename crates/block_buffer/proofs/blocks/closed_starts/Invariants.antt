use Rattle.std.proofs.Common.{◌≡◌, ℕ, ◌<◌, ℤ, Some, true}
use Rattle.std.specs.BTreeSet.{contains}
use Rattle.m3_model.specs.declared.point.Key.{Key}
use Rattle.series_slots.specs.Points.{value_of}
use Rattle.series_slots.specs.SeriesEntries.{slots_of}
use Rattle.block_buffer.specs.Blocks.{block_cmp, block_of, has_closed, IsClosedBlockOf}
use Rattle.block_buffer.proofs.blocks.closed_starts.Given as goal

abbrev pub invariant-loop-space : goal.invariant-loop-space
invariant-loop-space l = record {
  held : (q : ℕ × ℕ) → contains block_cmp l.starts q ≡ true → IsClosedBlockOf l.rules l.all q;
  whole : (k : Key) (v : ℤ) (q : ℕ × ℕ) → value_of (slots_of l.all) k ≡ Some v → k.ns < l.space → block_of l.rules k ≡ Some q → has_closed l.rules q ≡ true → contains block_cmp l.starts q ≡ true;
}
