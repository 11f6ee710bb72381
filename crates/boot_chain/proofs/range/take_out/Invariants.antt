use Rattle.std.proofs.Common.{◌≡◌, ◌++◌, ◌≤◌, length, take, drop}
use Rattle.boot_chain.specs.Ranges.{left_of}
use Rattle.boot_chain.proofs.range.take_out.Given as goal

abbrev pub invariant-loop-position : goal.invariant-loop-position
invariant-loop-position l = record {
  few : l.kept ≤ l.position;
  as_long : length l.ranges.items ≡ length l.initial.ranges.items;
  kept_is : take l.kept l.ranges.items ++ left_of (drop l.position l.ranges.items) l.rest ≡ left_of l.initial.ranges.items l.claimed;
}
