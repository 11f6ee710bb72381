use Rattle.std.proofs.Common.{take}
use Rattle.fileset_check.specs.wire_bytes.Entries.{AllBounded}
use Rattle.snapshot_files.proofs.lawful.are_bounded.Given as goal

-- the first of the points lie within their bounds
abbrev pub invariant-loop-point : goal.invariant-loop-point
invariant-loop-point l = AllBounded (take l.point-index l.points)
