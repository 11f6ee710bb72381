use Rattle.std.proofs.Common.{◌≡◌, ◌++◌, take}
use Rattle.fileset_check.specs.wire_bytes.Entries.{points_bytes}
use Rattle.snapshot_files.proofs.bytes.put_points.Given as goal

-- the first of the points are appended
abbrev pub invariant-loop-point : goal.invariant-loop-point
invariant-loop-point l = l.out.items ≡ l.initial.out.items ++ points_bytes (take l.point-index l.points)
