use Rattle.std.proofs.Common.{◌≡◌, ◌-◌, ◌≤◌, List, length}
use Rattle.shard_files.specs.m3_model.declared.point.Series.{Series}
use Rattle.shard_files.specs.wire_bytes.Volumes.{data_bytes}
use Rattle.fileset_read.specs.Rows.{AreSpelled}
use Rattle.fileset_read.proofs.LeftLemmas.{RowsLeft}
use Rattle.fileset_read.proofs.series.rows_in.Given as goal

abbrev pub invariant-loop-at : goal.invariant-loop-at
invariant-loop-at l = record {
  within : l.at ≤ length l.bytes;
  left : (rows : List Series) → AreSpelled rows → l.bytes ≡ data_bytes rows → RowsLeft rows l.rows.items l.bytes l.at;
}

abbrev pub decreases-loop-at : goal.decreases-loop-at
decreases-loop-at l = length l.bytes - l.at
