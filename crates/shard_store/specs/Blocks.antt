-- A block of a store, joined, written and without its older volumes.
use Rattle.std.specs.Prelude.{◌≡◌, ◌↔◌, ℕ, true, false, ◌==◌, ◌&&◌, List, filter}
use Rattle.std.specs.FinMap.{retain_keys}
use Rattle.m3_model.specs.Contents.{Contents, content_of}
use Rattle.m3_model.specs.Members.{IsIn}
use Rattle.m3_model.specs.declared.point.Series.{Series}
use Rattle.m3_outside.specs.Files.{Files}
use Rattle.store_log.specs.listed_volumes.block_buffer.Held.{is_in_block}
use Rattle.store_log.specs.listed_volumes.shard_files.Parts.{KnownVolume}
use Rattle.store_log.specs.listed_volumes.shard_files.FilesHold.{points_known}
use Rattle.store_log.specs.listed_volumes.wire_bytes.Volumes.{points_of_rows}
use Rattle.store_log.specs.listed_volumes.shard_files.Steps.{next_volume}
use Rattle.store_log.specs.listed_volumes.fileset_read.declared.file_err.FileErr.{FileErr}
use Rattle.store_log.specs.listed_volumes.fileset_read.declared.file_err.FileErr.TheVariants as failures
use Rattle.store_log.specs.listed_volumes.Known.{is_of}
use Rattle.store_log.specs.listed_volumes.BlockErr.{BlockErr}
use Rattle.store_log.specs.listed_volumes.TheVariants as errors
use Rattle.shard_store.specs.Stores.{joined_with}

-- a block that has more than a volume may have wants memory
abbrev pub block_said : BlockErr → FileErr
block_said errors.Disk = failures.Disk
block_said errors.Memory = failures.Memory
block_said errors.Large = failures.Memory
block_said (errors.Form file) = failures.Form file

-- the points of the block in memory, joined with those of all its volumes
abbrev pub block_join : Contents → List KnownVolume → ℕ → ℕ → ℕ → Contents
block_join buffered known ns start size = joined_with (retain_keys buffered (is_in_block ns start size)) (filter (is_of ns start size) known)

-- the rows have just the points of the join of the block
abbrev pub IsBlockJoin : Contents → List KnownVolume → ℕ → ℕ → ℕ → List Series → Type 0
IsBlockJoin buffered known ns start size rows = content_of (points_of_rows ns rows) ≡ block_join buffered known ns start size

-- the block has one volume, which has its join, under the next number; all volumes of other blocks are as before
pub record IsOneVolume (ns start size : ℕ) (buffered : Contents) (known : List KnownVolume) (files : Files) (now : List KnownVolume) : Type 0 where
  pub volume : KnownVolume
  pub there : IsIn now volume
  pub of_block : is_of ns start size volume ≡ true
  pub number : volume.head.number ≡ next_volume ns start files
  pub joins : content_of (points_known volume) ≡ block_join buffered known ns start size
  pub alone : (k : KnownVolume) → IsIn now k → is_of ns start size k ≡ true → k ≡ volume
  pub others : (k : KnownVolume) → is_of ns start size k ≡ false → IsIn now k ↔ IsIn known k

-- the numbers of other blocks' next volumes are as before
abbrev pub OtherNumbersStay : ℕ → ℕ → Files → Files → Type 0
OtherNumbersStay ns start old new = (n s : ℕ) → ((n == ns) && (s == start)) ≡ false → next_volume n s new ≡ next_volume n s old
