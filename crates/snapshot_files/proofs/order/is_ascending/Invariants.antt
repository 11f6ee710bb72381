use Rattle.std.proofs.Common.{◌≤◌, take}
use Rattle.fileset_check.specs.m3_model.Ascends.{Ascends}
use Rattle.snapshot_files.specs.Snaps.{IsBefore}
use Rattle.snapshot_files.proofs.order.is_ascending.Given as goal

-- the first of the points ascend
abbrev pub invariant-loop-i : goal.invariant-loop-i
invariant-loop-i l = record {
  some : 1 ≤ l.i;
  up : Ascends IsBefore (take l.i l.points);
}
