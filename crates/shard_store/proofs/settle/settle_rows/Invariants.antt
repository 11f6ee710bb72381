use Rattle.std.proofs.Common.{◌≡◌, None, take}
use Rattle.store_log.specs.listed_volumes.block_buffer.Taken.{settled_with}
use Rattle.store_log.specs.listed_volumes.wire_bytes.Volumes.{points_of_rows}
use Rattle.shard_store.proofs.settle.settle_rows.Given as goal

abbrev pub invariant-loop-row : goal.invariant-loop-row
invariant-loop-row l = record {
  room : l.held.room ≡ None;
  points : l.held.points ≡ settled_with l.fn.held.points (points_of_rows l.ns (take l.row-index l.rows));
}
