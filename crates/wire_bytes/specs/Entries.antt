-- Entries as bytes: points, a fence or a tenure.
use Rattle.std.specs.Prelude.{◌≡◌, ℕ, ◌+◌, ◌<◌, ◌≤◌, ◌^◌, List, [], ◌∷◌, ◌++◌, length, ⊤}
use Rattle.byteorder.specs.Endian.{big_bytes}
use Rattle.m3_model.specs.declared.limits.TheConstants.{MOST_PAGE_POINTS}
use Rattle.m3_model.specs.declared.point.Point.{Point}
use Rattle.wire_bytes.specs.Fields.{Stands}
use Rattle.wire_bytes.specs.Points.{IsPoint, point_bytes}
use Rattle.wire_bytes.specs.declared.entry_read.EntryAt.{EntryAt}
use Rattle.wire_bytes.specs.declared.entry_read.EntryAt.TheVariants as found

-- the point's values are within their bounds
abbrev pub IsBounded : Point → Type 0
IsBounded p = IsPoint p.ns p.id p.t p.v

abbrev pub bytes_of_point : Point → List ℕ
bytes_of_point p = point_bytes p.ns p.id p.t p.v

-- points, one after another
abbrev pub points_bytes : List Point → List ℕ
points_bytes [] = []
points_bytes (p ∷ ps) = bytes_of_point p ++ points_bytes ps

abbrev pub AllBounded : List Point → Type 0
AllBounded [] = ⊤
AllBounded (p ∷ ps) = IsBounded p × AllBounded ps

-- the entry of these points
abbrev pub points_entry : List Point → List ℕ
points_entry ps = big_bytes 1 1 ++ (big_bytes 2 (length ps) ++ points_bytes ps)

abbrev pub fence_entry : ℕ → List ℕ
fence_entry fence = big_bytes 1 2 ++ big_bytes 8 fence

abbrev pub tenure_entry : ℕ → List ℕ
tenure_entry tenure = big_bytes 1 3 ++ big_bytes 8 tenure

-- as many points as an entry may have
pub record ArePoints (ps : List Point) : Type 0 where
  pub some : 1 ≤ length ps
  pub most : length ps ≤ MOST_PAGE_POINTS
  pub bounded : AllBounded ps

-- an entry's bytes
pub data AnEntry (bytes : List ℕ) : Type 0 where
  OfPoints : (ps : List Point) → ArePoints ps → bytes ≡ points_entry ps → AnEntry bytes
  OfFence : (fence : ℕ) → fence < 2 ^ 64 → bytes ≡ fence_entry fence → AnEntry bytes
  OfTenure : (tenure : ℕ) → tenure < 2 ^ 64 → bytes ≡ tenure_entry tenure → AnEntry bytes

-- these points stand from the one offset to the other
pub record PointsStand (ps : List Point) (bytes : List ℕ) (from next : ℕ) : Type 0 where
  pub bounded : AllBounded ps
  pub stands : Stands (points_bytes ps) bytes from next

-- an entry of so many points stands at the offset, with its points and its end where it says
pub record PointsEntryStands (bytes : List ℕ) (at count from next : ℕ) : Type 0 where
  pub ps : List Point
  pub count_is : length ps ≡ count
  pub values : ArePoints ps
  pub from_is : from ≡ at + 3
  pub points : Stands (points_bytes ps) bytes from next
  pub stands : Stands (points_entry ps) bytes at next

-- this entry stands at the offset
abbrev pub EntryStands : List ℕ → ℕ → EntryAt → Type 0
EntryStands bytes at (found.Points count from next) = PointsEntryStands bytes at count from next
EntryStands bytes at (found.Fence fence next) = (fence < 2 ^ 64) × Stands (fence_entry fence) bytes at next
EntryStands bytes at (found.Tenure tenure next) = (tenure < 2 ^ 64) × Stands (tenure_entry tenure) bytes at next
