use Rattle.std.proofs.Common.{◌≡◌}
use Rattle.std.specs.FinMap as finite
use Rattle.block_buffer.specs.Held.{without, is_in_block}
use Rattle.block_buffer.proofs.buffer.Buffer.drop_block.Given as goal

abbrev pub invariant-loop-taken : goal.invariant-loop-taken
invariant-loop-taken l = without l.self.points (is_in_block l.ns l.start l.size) ≡ without l.fn.self.points (is_in_block l.ns l.start l.size)

abbrev pub decreases-loop-taken : goal.decreases-loop-taken
decreases-loop-taken l = finite.len l.self.points
