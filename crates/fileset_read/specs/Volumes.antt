-- Volumes that are there, and why one isn't read.
use Rattle.std.specs.Prelude.{⊤, Bool, ◌&&◌, List}
use Rattle.std.specs.FinMap.{get}
use Rattle.shard_files.specs.m3_model.declared.point.Series.{Series}
use Rattle.shard_files.specs.m3_outside.Files.{Files}
use Rattle.shard_files.specs.m3_outside.declared.file_name.FileName.{FileName}
use Rattle.shard_files.specs.m3_outside.declared.disk_err.DiskErr.{DiskErr}
use Rattle.shard_files.specs.m3_outside.declared.disk_err.DiskErr.TheVariants as disk
use Rattle.shard_files.specs.wire_bytes.Volumes.{VolumeHead}
use Rattle.shard_files.specs.Parts.{VolumeHolds, is_open, is_volume_checkpoint}
use Rattle.fileset_read.specs.declared.row_err.RowErr.{RowErr}
use Rattle.fileset_read.specs.declared.row_err.RowErr.TheVariants as errors
use Rattle.fileset_read.specs.declared.file_err.FileErr.{FileErr}
use Rattle.fileset_read.specs.declared.file_err.FileErr.TheVariants as failures

-- the volume of this head is there whole, with some rows; so it counts
pub record IsThere (v : VolumeHead) (files : Files) : Type 0 where
  pub rows : List Series
  pub holds : VolumeHolds v rows files

-- the name is that of the checkpoint of a volume that counts
abbrev pub is_counted : Files → FileName → Bool
is_counted files name = is_volume_checkpoint name && is_open (get files name)

abbrev pub of_disk : DiskErr → FileErr
of_disk disk.Failed = failures.Disk
of_disk disk.Memory = failures.Memory

-- the same, of this file
abbrev pub in_file : FileName → RowErr → FileErr
in_file name errors.Memory = failures.Memory
in_file name errors.Form = failures.Form name

-- no damage is told; a fault has its own cause, and memory may always be wanted
abbrev pub IsUndamaged : FileErr → Type 0
IsUndamaged failures.Disk = ⊤
IsUndamaged failures.Memory = ⊤
IsUndamaged (failures.Form name) = ⊥
