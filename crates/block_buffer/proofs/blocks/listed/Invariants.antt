use Rattle.std.proofs.Common.{◌≡◌, ◌++◌}
use Rattle.block_buffer.proofs.blocks.listed.Given as goal

abbrev pub invariant-loop-start : goal.invariant-loop-start
invariant-loop-start l = l.blocks.items ++ l.start-iterator ≡ l.starts.keys
