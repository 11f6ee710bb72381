-- The blocks of a content; M3DB's page "Storage Engine", of blocks.
use Rattle.std.specs.Prelude.{◌≡◌, ℕ, ℤ, ◌<◌, ◌≤◌, ◌+◌, ◌*◌, ◌/◌, List, Bool, true, false, nat_le, Option, Some, None, IsSome, slice_get, ◌⊎◌, option_map}
use Rattle.std.specs.FinMap as map
use Rattle.std.specs.Ordering.{nat_cmp, ordering_then}
use Rattle.std.specs.declared.cmp.Ordering.{Ordering}
use Rattle.m3_model.specs.declared.point.Key.{Key}
use Rattle.m3_model.specs.declared.point.Point.{Point}
use Rattle.m3_model.specs.declared.rules.Rules.{Rules}
use Rattle.m3_model.specs.declared.rules.Space.{Space}
use Rattle.m3_model.specs.Ascends.{Ascends}
use Rattle.m3_model.specs.Members.{IsIn}
use Rattle.m3_model.specs.Contents.{Contents, key_of}
use Rattle.series_slots.specs.Ranges.{ContentHas}
use Rattle.series_slots.specs.Points.{value_of}
use Rattle.series_slots.specs.SeriesKeys.{series_of}
use Rattle.series_slots.specs.Slots.{Slots}
use Rattle.series_slots.specs.SeriesEntries.{SeriesEntries, slots_of}

-- the start of the block in which a time lies: the last multiple of the block size up to it
abbrev pub block_start : ℕ → ℕ → ℕ
block_start size t = size * (t / size)

-- the namespace and the start of the block in which a key lies, if its namespace is there
abbrev pub block_of : Rules → Key → Option (ℕ × ℕ)
block_of rules k = option_map (λ space. (k.ns, block_start space.block k.t)) (slice_get rules.spaces k.ns)

-- one block is before another: by namespace, and then by start
abbrev pub IsBefore : ℕ × ℕ → ℕ × ℕ → Type 0
IsBefore a b = (a.0 < b.0) ⊎ ((a.0 ≡ b.0) × (a.1 < b.1))

-- no write of a block of the space that begins here is taken any more
abbrev pub is_over : Option Space → ℕ → ℕ → Bool
is_over None start now = false
is_over (Some space) start now = nat_le (start + space.block + space.past) now

-- no write of the block is taken any more
abbrev pub has_closed : Rules → ℕ × ℕ → Bool
has_closed rules block = is_over (slice_get rules.spaces block.0) block.1 rules.now

-- the blocks that have a point of the content, ascending
pub record IsBlocksOf (rules : Rules) (c : Contents) (blocks : List (ℕ × ℕ)) : Type 0 where
  pub ascend : Ascends IsBefore blocks
  pub held : (block : ℕ × ℕ) → IsIn blocks block → (p : Point) × ContentHas c p × (block_of rules (key_of p) ≡ Some block)
  pub whole : (block : ℕ × ℕ) (p : Point) → ContentHas c p → block_of rules (key_of p) ≡ Some block → IsIn blocks block

-- those of the blocks that have a point of the content of which no write is taken any more, ascending
pub record IsClosedBlocksOf (rules : Rules) (c : Contents) (blocks : List (ℕ × ℕ)) : Type 0 where
  pub ascend : Ascends IsBefore blocks
  pub held : (block : ℕ × ℕ) → IsIn blocks block → (p : Point) × ContentHas c p × (block_of rules (key_of p) ≡ Some block) × (has_closed rules block ≡ true)
  pub whole : (block : ℕ × ℕ) (p : Point) → ContentHas c p → block_of rules (key_of p) ≡ Some block → has_closed rules block ≡ true → IsIn blocks block

-- the order of blocks
abbrev pub block_cmp : ℕ × ℕ → ℕ × ℕ → Ordering
block_cmp a b = ordering_then (nat_cmp a.0 b.0) (nat_cmp a.1 b.1)

-- the values of the series at the position, if that is of the namespace, up to this time have the starts of their blocks there
abbrev pub HasStartsAt : SeriesEntries → ℕ → ℕ → ℕ → (ℕ × ℕ → Bool) → ℕ → Type 0
HasStartsAt es ns size last has position = (k : Key) (v : ℤ) (slots : Slots) → slice_get es position ≡ Some (series_of k, slots) → IsSome (map.get slots k.t) → value_of (slots_of es) k ≡ Some v → k.ns ≡ ns → k.t ≤ last
    → has (ns, block_start size k.t) ≡ true

-- it is the start of the block of this size of a value of the namespace up to this time
pub record IsStartOf (es : SeriesEntries) (ns size last : ℕ) (q : ℕ × ℕ) : Type 0 where
  pub key : Key
  pub value : ℤ
  pub stands : value_of (slots_of es) key ≡ Some value
  pub space : key.ns ≡ ns
  pub early : key.t ≤ last
  pub is : q ≡ (ns, block_start size key.t)

-- it is the block of a value
pub record IsBlockOf (rules : Rules) (es : SeriesEntries) (q : ℕ × ℕ) : Type 0 where
  pub key : Key
  pub value : ℤ
  pub stands : value_of (slots_of es) key ≡ Some value
  pub is : block_of rules key ≡ Some q

-- it is the block of a value, and no write of it is taken any more
pub record IsClosedBlockOf (rules : Rules) (es : SeriesEntries) (q : ℕ × ℕ) : Type 0 where
  pub block : IsBlockOf rules es q
  pub closed : has_closed rules q ≡ true
