-- The rows of a new volume of a block.
use Rattle.std.specs.Prelude.{◌≡◌, ⊤, ℕ, ◌+◌, ◌*◌, ◌<◌, ◌^◌, List, length}
use Rattle.m3_model.specs.Contents.{Contents, content_of}
use Rattle.m3_model.specs.Members.{IsIn}
use Rattle.m3_model.specs.Reads.{IsOrdered}
use Rattle.m3_model.specs.declared.point.Series.{Series}
use Rattle.fileset_check.specs.wire_bytes.Volumes.{VolumeHead, points_of_rows}
use Rattle.fileset_check.specs.fileset_read.declared.file_err.FileErr.{FileErr}
use Rattle.fileset_check.specs.fileset_read.declared.file_err.FileErr.TheVariants as failures
use Rattle.volume_points.specs.declared.block_err.BlockErr.{BlockErr}
use Rattle.volume_points.specs.declared.block_err.BlockErr.TheVariants as errors

abbrev pub of_file : FileErr → BlockErr
of_file failures.Disk = errors.Disk
of_file failures.Memory = errors.Memory
of_file (failures.Form name) = errors.Form name

-- no damage is told; each other error has a cause of its own
abbrev pub IsOfNoDamage : BlockErr → Type 0
IsOfNoDamage errors.Disk = ⊤
IsOfNoDamage errors.Memory = ⊤
IsOfNoDamage (errors.Form name) = ⊥
IsOfNoDamage errors.Large = ⊤

-- the head of a volume of format 1 of this block, as far as its rows are concerned
abbrev pub block_head : ℕ → ℕ → ℕ → VolumeHead
block_head ns start size = record { format = 1; ns = ns; start = start; size = size; number = 0 }

-- the series are in order, and stand for this content in the namespace
pub record AreRowsOf (ns : ℕ) (c : Contents) (rows : List Series) : Type 0 where
  pub ordered : IsOrdered rows
  pub content : content_of (points_of_rows ns rows) ≡ c

-- the number of series and the bytes of each fit their fields
pub record FitsFields (rows : List Series) : Type 0 where
  pub counted : 16 * length rows < 2 ^ 32
  pub long : (s : Series) → IsIn rows s → 6 + length s.id + 16 * length s.points < 2 ^ 32

-- the rows that stand for this content are more than a volume may have
pub record IsTooLarge (ns : ℕ) (c : Contents) : Type 0 where
  pub rows : List Series
  pub are : AreRowsOf ns c rows
  pub unfit : ¬ FitsFields rows
