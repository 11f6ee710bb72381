use Rattle.std.proofs.Common.{◌≡◌, None}
use Rattle.std.specs.FinMap as finite
use Rattle.block_buffer.specs.Held.{without, is_in_block}
use Rattle.held_points.proofs.held.HeldPoints.drop_block.Given as goal

abbrev pub invariant-loop : goal.invariant-loop
invariant-loop l = record {
  room : l.self.room ≡ None;
  kept : without l.self.points (is_in_block l.ns l.start l.size) ≡ without l.fn.self.points (is_in_block l.ns l.start l.size);
}

abbrev pub decreases-loop : goal.decreases-loop
decreases-loop l = finite.len l.self.points
