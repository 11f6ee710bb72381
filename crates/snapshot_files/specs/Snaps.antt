-- Snapshots that are saved.
use Rattle.std.specs.Prelude.{◌≡◌, ℕ, List, ◌++◌}
use Rattle.std.specs.declared.cmp.Ordering.TheVariants.{Less}
use Rattle.byteorder.specs.Endian.{big_bytes}
use Rattle.fileset_check.specs.m3_model.Contents.{key_of}
use Rattle.fileset_check.specs.m3_model.Keys.{key_cmp}
use Rattle.fileset_check.specs.m3_model.declared.point.Point.{Point}
use Rattle.fileset_check.specs.m3_outside.Files.{Files, IsAbsent}
use Rattle.fileset_check.specs.m3_outside.declared.file_name.FileName.{FileName}
use Rattle.fileset_check.specs.wire_bytes.Snapshots.{Snapshot}
use Rattle.fileset_check.specs.shard_files.Steps.{IsOfSnapshot}
use Rattle.snapshot_files.specs.declared.snap.Snap.{Snap}

-- the snapshot as files hold it
abbrev pub seen : Snap → Snapshot
seen s = record { number = s.number; tenure = s.tenure; fence = s.fence; first_segment = s.first; points = s.points }

-- what stands in a snapshot's data before its points
abbrev pub head_bytes : ℕ → ℕ → ℕ → ℕ → ℕ → List ℕ
head_bytes number tenure fence first count = big_bytes 1 1 ++ (big_bytes 8 number ++ (big_bytes 8 tenure ++ (big_bytes 8 fence ++ (big_bytes 8 first ++ big_bytes 4 count))))

-- neither of its files is there
abbrev pub IsNew : ℕ → Files → Type 0
IsNew number files = (name : FileName) → IsOfSnapshot number name → IsAbsent name files

-- the key of the one is below that of the other
abbrev pub IsBefore : Point → Point → Type 0
IsBefore one other = key_cmp (key_of one) (key_of other) ≡ Less
