use Rattle.std.proofs.Common.{◌≡◌, ◌++◌, take}
use Rattle.snapshot_files.specs.wire_bytes.Volumes.{points_of_row}
use Rattle.shard_open.proofs.rows.append_row.Given as goal

abbrev pub invariant-loop-pair : goal.invariant-loop-pair
invariant-loop-pair l = l.points.items ≡ l.fn.points.items ++ points_of_row l.ns (record { id = l.row.id; points = take l.pair-index l.pair-items })
