-- The rows of volumes that a cache of blocks keeps.
use Rattle.std.specs.Prelude.{◌≡◌, ⊤, ℕ, List, Option, Some, None, IfSome, IsSome}
use Rattle.m3_model.specs.Members.{IsIn}
use Rattle.m3_model.specs.declared.point.Pick.{Pick}
use Rattle.m3_model.specs.declared.point.Pick.TheVariants as pick
use Rattle.m3_model.specs.declared.point.Series.{Series}
use Rattle.volume_points.specs.m3_outside.Files.{Files}
use Rattle.volume_points.specs.wire_bytes.Volumes.{VolumeHead}
use Rattle.volume_points.specs.shard_files.Parts.{KnownVolume}
use Rattle.volume_points.specs.volume_bytes.declared.heads.Head.{Head}
use Rattle.volume_points.specs.volume_bytes.Heads.{head_of}
use Rattle.volume_points.specs.Picked.{AreAscending, IsSelectionOf}
use Rattle.block_cache.specs.Blocks.{BlockKey, Blocks, no_blocks, rows_of}
use Rattle.listed_volumes.specs.Listed.{AreHeld}

-- the block of a volume: its namespace, start and number
abbrev pub cache_key : VolumeHead → BlockKey
cache_key v = (v.ns, v.start, v.number)

-- what is kept before there is a cache, and in it
abbrev pub blocks_in : Option Blocks → Blocks
blocks_in None = no_blocks 64
blocks_in (Some blocks) = blocks

-- all rows that are kept ascend
abbrev pub AreInOrder : Blocks → Type 0
AreInOrder blocks = (key : BlockKey) → IfSome (rows_of key blocks) AreAscending

-- each block that is kept is one of these volumes
abbrev pub AreOfVolumes : List KnownVolume → Blocks → Type 0
AreOfVolumes known blocks = (key : BlockKey) → IsSome (rows_of key blocks) → (k : KnownVolume) × IsIn known k × (cache_key k.head ≡ key)

-- what is kept of these volumes are their rows
abbrev pub AreRight : List KnownVolume → Blocks → Type 0
AreRight known blocks = (k : KnownVolume) → IsIn known k → IfSome (rows_of (cache_key k.head) blocks) (λ rows. rows ≡ k.rows)

-- the key is that of one of these heads
abbrev pub IsKeyOfOne : List Head → BlockKey → Type 0
IsKeyOfOne heads key = (h : Head) × IsIn heads h × (cache_key (head_of h) ≡ key)

-- nothing is kept of these volumes; of all others what was
pub record HasForgotten (heads : List Head) (old new : Blocks) : Type 0 where
  pub gone : (h : Head) → IsIn heads h → rows_of (cache_key (head_of h)) new ≡ None
  pub others : (key : BlockKey) → (IsKeyOfOne heads key → ⊥) → rows_of key new ≡ rows_of key old

-- the points in the range that the pick asks for, of the rows that are kept of the block
abbrev pub IsFoundInRows : BlockKey → Blocks → Pick → ℕ → ℕ → List Series → Type 0
IsFoundInRows key blocks pick from to series = (rows : List Series) × (rows_of key blocks ≡ Some rows) × IsSelectionOf rows pick from to series

-- the pick asks by matchers
abbrev pub IsMatch : Pick → Type 0
IsMatch (pick.One ns id) = ⊥
IsMatch (pick.Match ns wanted) = ⊤

-- a block that is kept newly is one of these volumes
abbrev pub StayOfVolumes : List KnownVolume → Blocks → Blocks → Type 0
StayOfVolumes read old new = (known : List KnownVolume) → ((k : KnownVolume) → IsIn read k → IsIn known k) → AreOfVolumes known old → AreOfVolumes known new

-- what is kept of volumes that are there stays right
abbrev pub StayRight : Files → Blocks → Blocks → Type 0
StayRight files old new = (known : List KnownVolume) → AreHeld known files → AreRight known old → AreRight known new
