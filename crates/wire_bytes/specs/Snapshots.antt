-- A snapshot as bytes.
use Rattle.std.specs.Prelude.{◌≡◌, ℕ, ◌<◌, ◌^◌, List, ◌++◌, length}
use Rattle.std.specs.declared.cmp.Ordering.TheVariants.{Less}
use Rattle.byteorder.specs.Endian.{big_bytes}
use Rattle.m3_model.specs.Ascends.{Ascends}
use Rattle.m3_model.specs.Contents.{key_of}
use Rattle.m3_model.specs.Keys.{key_cmp}
use Rattle.m3_model.specs.declared.limits.TheConstants.{NUMBER_END}
use Rattle.m3_model.specs.declared.point.Point.{Point}
use Rattle.wire_bytes.specs.Entries.{points_bytes, AllBounded}

-- its number, a tenure and a fence, the number of the first segment that is needed beside it, and points
pub record Snapshot : Type 0 where
  pub number : ℕ
  pub tenure : ℕ
  pub fence : ℕ
  pub first_segment : ℕ
  pub points : List Point

abbrev pub snapshot_bytes : Snapshot → List ℕ
snapshot_bytes s = big_bytes 1 1 ++ (big_bytes 8 s.number ++ (big_bytes 8 s.tenure ++ (big_bytes 8 s.fence ++ (big_bytes 8 s.first_segment ++ (big_bytes 4 (length s.points) ++ points_bytes s.points)))))

-- what a snapshot has lies within the bounds of its fields; no two points have one key
pub record IsSnapshot (s : Snapshot) : Type 0 where
  pub number : s.number < NUMBER_END
  pub tenure : s.tenure < 2 ^ 64
  pub fence : s.fence < 2 ^ 64
  pub first_segment : s.first_segment < 2 ^ 64
  pub counted : length s.points < 2 ^ 32
  pub bounded : AllBounded s.points
  pub ascending : Ascends (λ a b. key_cmp (key_of a) (key_of b) ≡ Less) s.points
