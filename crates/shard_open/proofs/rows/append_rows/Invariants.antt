use Rattle.std.proofs.Common.{◌≡◌, ◌++◌, take}
use Rattle.snapshot_files.specs.wire_bytes.Volumes.{points_of_rows}
use Rattle.shard_open.proofs.rows.append_rows.Given as goal

abbrev pub invariant-loop-row : goal.invariant-loop-row
invariant-loop-row l = l.points.items ≡ l.fn.points.items ++ points_of_rows l.ns (take l.row-index l.rows)
