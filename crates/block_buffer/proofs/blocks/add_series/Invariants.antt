use Rattle.std.proofs.Common.{◌-◌, ◌^◌}
use Rattle.std.specs.BTreeSet.{contains}
use Rattle.block_buffer.specs.Blocks.{block_cmp}
use Rattle.block_buffer.proofs.BlockLemmas.{AreAdded}
use Rattle.block_buffer.proofs.blocks.add_series.Given as goal

abbrev pub invariant-loop-spot : goal.invariant-loop-spot
invariant-loop-spot l = AreAdded l.all l.ns l.size l.last l.position l.low (contains block_cmp l.initial.starts) (contains block_cmp l.starts)

abbrev pub decreases-loop-spot : goal.decreases-loop-spot
decreases-loop-spot l = 2 ^ 64 - l.low
