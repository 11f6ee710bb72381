-- What a flush writes and leaves; M3DB's page "Storage Engine", of flushes.
use Rattle.std.specs.Prelude.{◌≡◌, ◌↔◌, ℕ, ◌+◌, Bool, true, false, if◌then◌else◌, nat_le, List, Option, Some, None, filter, slice_get}
use Rattle.std.specs.List.{list_any}
use Rattle.std.specs.FinMap.{retain_keys}
use Rattle.m3_model.specs.Answers.{HasPoint}
use Rattle.m3_model.specs.Contents.{Contents, content_of}
use Rattle.m3_model.specs.Members.{IsIn}
use Rattle.m3_model.specs.declared.point.Key.{Key}
use Rattle.m3_model.specs.declared.point.Point.{Point}
use Rattle.m3_model.specs.declared.rules.Rules.{Rules}
use Rattle.m3_model.specs.declared.rules.Space.{Space}
use Rattle.m3_outside.specs.Files.{Files}
use Rattle.m3_outside.specs.DiskState.{DiskState}
use Rattle.store_log.specs.listed_volumes.block_buffer.Blocks.{has_closed, IsBlocksOf}
pub use Rattle.store_log.specs.listed_volumes.block_buffer.Blocks.{is_over}
use Rattle.store_log.specs.listed_volumes.block_buffer.Held.{is_in_block, without}
use Rattle.store_log.specs.listed_volumes.shard_files.Parts.{KnownVolume, VolumesAre}
use Rattle.store_log.specs.listed_volumes.shard_files.FilesHold.{points_known}
use Rattle.store_log.specs.listed_volumes.shard_files.Steps.{next_volume}
use Rattle.store_log.specs.listed_volumes.Known.{is_of}
use Rattle.shard_store.specs.Stores.{StoreState, joined_with}

-- ---- which blocks

-- no write of the block is taken any more
abbrev pub may_be_flushed : Rules → ℕ × ℕ → Bool
may_be_flushed rules block = has_closed rules block

-- the size of a block that begins here, if it may be flushed
abbrev pub ended_size : Option Space → ℕ → ℕ → Option ℕ
ended_size None start now = None
ended_size (Some space) start now = if nat_le (start + space.block + space.past) now then Some space.block else None

-- the blocks that may be flushed and have points in memory, ascending
pub record AreFlushed (rules : Rules) (buffered : Contents) (blocks : List (ℕ × ℕ)) : Type 0 where
  pub all : List (ℕ × ℕ)
  pub are : IsBlocksOf rules buffered all
  pub is : blocks ≡ filter (may_be_flushed rules) all

abbrev pub size_in : Option Space → ℕ
size_in None = 0
size_in (Some space) = space.block

-- the size of the blocks of a namespace
abbrev pub block_size : Rules → ℕ → ℕ
block_size rules ns = size_in (slice_get rules.spaces ns)

-- the key lies in the block
abbrev pub is_in : Rules → ℕ × ℕ → Key → Bool
is_in rules block k = is_in_block block.0 block.1 (block_size rules block.0) k

-- the key lies in one of the blocks
abbrev pub is_in_one : Rules → List (ℕ × ℕ) → Key → Bool
is_in_one rules blocks k = list_any (λ block. is_in rules block k) blocks

-- the volume is one of the block
abbrev pub is_volume_of : Rules → ℕ × ℕ → KnownVolume → Bool
is_volume_of rules block k = is_of block.0 block.1 (block_size rules block.0) k

-- ---- what is written

-- The volume that a flush of the block writes: the points of the block in memory, joined with those of all volumes of the block, under a number one above those
-- of all volumes of its namespace and start of which a file was there.
pub record IsFlushOf (rules : Rules) (buffered : Contents) (known : List KnownVolume) (files : Files) (block : ℕ × ℕ) (k : KnownVolume) : Type 0 where
  pub of_block : is_volume_of rules block k ≡ true
  pub number : k.head.number ≡ next_volume block.0 block.1 files
  pub joins : content_of (points_known k) ≡ joined_with (retain_keys buffered (is_in rules block)) (filter (is_volume_of rules block) known)

-- Each of the blocks has just the volume that its flush wrote; all other volumes are as before.
pub record AreFlushedTo (rules : Rules) (buffered : Contents) (blocks : List (ℕ × ℕ)) (known : List KnownVolume) (files : Files) (now : List KnownVolume) : Type 0 where
  pub written : (block : ℕ × ℕ) → IsIn blocks block → (k : KnownVolume) × IsIn now k × IsFlushOf rules buffered known files block k
  pub alone : (block : ℕ × ℕ) → IsIn blocks block → (j k : KnownVolume) → IsIn now j → IsIn now k → is_volume_of rules block j ≡ true → is_volume_of rules block k ≡ true → j ≡ k
  pub others : (k : KnownVolume) → ((block : ℕ × ℕ) → IsIn blocks block → is_volume_of rules block k ≡ false) → IsIn now k ↔ IsIn known k

-- The points of the blocks aren't in memory any more, and nothing else of the store has changed. Where the disk tells what it holds, its content is the same, and
-- the volumes that count are those that a flush of the blocks leaves.
pub record HasFlushed {D : Type 0} (state : D → DiskState) (rules : Rules) (blocks : List (ℕ × ℕ)) (old new : StoreState D) : Type 0 where
  pub same : new ≡ record old { disk = new.disk; buffered = without old.buffered (is_in_one rules blocks); content = new.content }
  pub content : (state old.disk).tells ≡ true → new.content ≡ old.content
  pub volumes : (state old.disk).tells ≡ true → (known : List KnownVolume) → VolumesAre known (state old.disk).files
      → (now : List KnownVolume) × VolumesAre now (state new.disk).files × AreFlushedTo rules old.buffered blocks known (state old.disk).files now

-- Some points may have left memory, and nothing else of the store has changed; nor has its content where the disk tells what it holds.
pub record IsPartFlushed {D : Type 0} (state : D → DiskState) (old new : StoreState D) : Type 0 where
  pub same : new ≡ record old { disk = new.disk; buffered = new.buffered; content = new.content }
  pub content : (state old.disk).tells ≡ true → new.content ≡ old.content
  pub fewer : (p : Point) → HasPoint new.buffered p → HasPoint old.buffered p
