-- The first points of the rows that are kept of a volume, and up to which point those of further volumes are needed.
use Rattle.std.specs.Prelude.{◌≡◌, ◌⊎◌, ℕ, ◌+◌, ◌-◌, ◌<◌, ◌≤◌, List, length, slice_get, Option, Some, None, IsSome}
use Rattle.m3_model.specs.Contents.{content_of}
use Rattle.m3_model.specs.Reads.{points_in}
use Rattle.m3_model.specs.declared.point.Key.{Key}
use Rattle.m3_model.specs.declared.point.Point.{Point}
use Rattle.m3_model.specs.declared.point.Series.{Series}
use Rattle.volume_points.specs.wire_bytes.Volumes.{VolumeHead}
use Rattle.block_cache.specs.Blocks.{BlockKey, Blocks, rows_of}
use Rattle.first_points.specs.Bounds.{points_up_to}
use Rattle.first_points.specs.Firsts.{AreFirst}

-- the first points above the key, up to the last one, of the rows that are kept of the block
pub record AreFirstInRows (key : BlockKey) (blocks : Blocks) (after : Option Key) (last : Option Point) (limit : ℕ) (points : List Point) : Type 0 where
  pub rows : List Series
  pub kept : rows_of key blocks ≡ Some rows
  pub first : AreFirst (content_of (points_up_to last (points_in key.0 rows))) after limit points

-- the namespace is below that of the key
abbrev pub IsSpaceBelow : ℕ → Option Key → Type 0
IsSpaceBelow ns None = ⊥
IsSpaceBelow ns (Some k) = ns < k.ns

-- it is above that of the last point
abbrev pub IsSpaceAbove : ℕ → Option Point → Type 0
IsSpaceAbove ns None = ⊥
IsSpaceAbove ns (Some last) = last.ns < ns

-- key and point are of one identifier of the volume's namespace, and its block ends by the time of the one or begins behind that of the other
pub record IsTimeApart (v : VolumeHead) (k : Key) (last : Point) : Type 0 where
  pub key_ns : k.ns ≡ v.ns
  pub last_ns : last.ns ≡ v.ns
  pub id : k.id ≡ last.id
  pub times : (v.start + v.size ≤ k.t) ⊎ (last.t < v.start)

-- so it is with the key and the last point
abbrev pub AreTimeApart : VolumeHead → Option Key → Option Point → Type 0
AreTimeApart v (Some k) (Some last) = IsTimeApart v k last
AreTimeApart v (Some k) None = ⊥
AreTimeApart v None last = ⊥

-- as the volume's head tells, none of its points is above the key and up to the last point
abbrev pub IsApart : VolumeHead → Option Key → Option Point → Type 0
IsApart v after last = IsSpaceBelow v.ns after ⊎ (IsSpaceAbove v.ns last ⊎ AreTimeApart v after last)

-- the point is the last of these, which are so many or more
abbrev pub IsLastOfMany : List Point → ℕ → Option Point → Type 0
IsLastOfMany points limit last = (limit ≤ length points) × (IsSome last × (slice_get points (length points - 1) ≡ last))

-- none above the point is needed beside these: it is the one given, or the last of so many
abbrev pub IsLastNeeded : List Point → ℕ → Option Point → Option Point → Type 0
IsLastNeeded points limit given needed = (needed ≡ given) ⊎ IsLastOfMany points limit needed
