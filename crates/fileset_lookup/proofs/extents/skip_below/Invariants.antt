use Rattle.std.proofs.Common.{◌≡◌, List, ◌++◌, length}
use Rattle.wire_bytes.specs.m3_model.declared.point.Series.{Series}
use Rattle.wire_bytes.specs.Volumes.{VolumeHead, IsVolume, data_bytes, index_from}
use Rattle.fileset_lookup.proofs.ExtentLemmas.{RowsSkipped}
use Rattle.fileset_lookup.proofs.extents.skip_below.Given as goal

abbrev pub invariant-loop-id : goal.invariant-loop-id
invariant-loop-id l = (v : VolumeHead) (before rows later : List Series) → IsVolume v (before ++ (rows ++ later)) → v.format ≡ 1 → l.index ≡ index_from 1 (length (data_bytes before)) rows → RowsSkipped l.id before rows l.rest

abbrev pub decreases-loop-id : goal.decreases-loop-id
decreases-loop-id l = length l.rest
