use Rattle.std.proofs.Common.{◌≡◌, List, ◌++◌, length}
use Rattle.std.specs.Option.{option_copied}
use Rattle.wire_bytes.specs.m3_model.declared.point.Series.{Series}
use Rattle.wire_bytes.specs.Volumes.{VolumeHead, IsVolume, data_bytes, index_from}
use Rattle.fileset_lookup.proofs.ExtentLemmas.{RowsTaken}
use Rattle.fileset_lookup.proofs.extents.take_entries.Given as goal

abbrev pub invariant-loop-rest : goal.invariant-loop-rest
invariant-loop-rest l = (v : VolumeHead) (before rows later : List Series) → IsVolume v (before ++ (rows ++ later)) → v.format ≡ 1 → l.entries ≡ index_from 1 (length (data_bytes before)) rows → RowsTaken (option_copied l.last) l.most before rows l.taken l.points l.rest

abbrev pub decreases-loop-rest : goal.decreases-loop-rest
decreases-loop-rest l = length l.rest
